-- What a call comes to: refused, or done: document 01, "Any refusal returns its number with every other field 0; card and lent
-- slices are as before." Assumes nothing.
use Rattle.std.specs.Prelude.{ℕ, ◌≡◌}
use Rattle.refusal.specs.Refusal.{afterwards}
use Rattle.answers.specs.declared.Answer.TheVariants.{Refused}
use Rattle.answers.specs.Answers.{number_of, no_values, values_of}
use Rattle.card.specs.declared.Card.{Card}
use Rattle.card.specs.declared.Done.{Done}

-- a refused call hands back the card as it came, and its number alone
abbrev pub refused : Card → ℕ → Done
refused k number = record { card = k; answer = Refused number }

-- what a call comes to: refused with the number, or done
unfoldable pub or_refused : Card → ℕ → Done → Done
or_refused k number done = afterwards number done (refused k number)

-- the promise of a call whose refusal is `number`, 0 for none
pub record Answered (k : Card) (number : ℕ) (done answer : Done) : Type 0 where
  pub whole : answer ≡ or_refused k number done
  pub numbered : number_of answer.answer ≡ number
  pub valued : values_of answer.answer ≡ afterwards number (values_of done.answer) no_values
