-- What a driver is told is what the card's own call came to. Assumes nothing.
use Prim.Native.Nat.{ℕ, zero, suc}
use mathlib.Core.List.{List}
use mathlib.Core.Path.{◌≡◌, refl, sym, ap, ◌∙◌}
use Rattle.card.specs.declared.Card.{Card}
use Rattle.card.specs.declared.Done.{Done}
use Rattle.answers.specs.Answers.{number_of, values_of}
use Rattle.card.specs.Answers.{or_refused, Answered}
use Rattle.image.specs.Image.{image_of}
use Rattle.refusal.specs.Refusal.{afterwards}
use Rattle.told.specs.Told.{Said, Answering, Called, Settled}

-- ---- a call that was settled
module _ (k : Card) (number : ℕ) (done d : Done) (n : ℕ) (told' : List ℕ) (a : Answered k number done d) where
  pub answering : Said (number_of d.answer) (values_of d.answer) n told' → Answering number done.answer n told'
  answering s = record { number = s.number ∙ a.numbered; answer = s.answer ∙ a.valued }

  pub answered : Answering number done.answer n told' → Said (number_of d.answer) (values_of d.answer) n told'
  answered s = record { number = s.number ∙ sym a.numbered; answer = s.answer ∙ sym a.valued }

by_number :
    (k : Card) (number : ℕ) (done d : Done) (before : List ℕ) → d ≡ or_refused k number done
    → afterwards number (image_of d.card) before ≡ afterwards number (image_of done.card) before
unfolding or_refused
by_number k zero done d before e = ap (λ (x : Done). image_of x.card) e
by_number k (suc number) done d before e = refl

pub called :
    (k : Card) (number : ℕ) (done d : Done) (held : List ℕ) (n : ℕ) (held' told' : List ℕ) → Answered k number done d
    → Settled d held n held' told' → Called number done held n held' told'
called k number done d held n held' told' a s =
    let c = rw a.numbered at s.card in
    record {
      said = answering k number done d n told' a s.said;
      card = c ∙ by_number k number done d held a.whole;
    }

pub card-left :
    (k : Card) (number : ℕ) (done d : Done) → d ≡ or_refused k number done
    → afterwards number (image_of done.card) (image_of k) ≡ image_of d.card
unfolding or_refused
card-left k zero done d e = ap (λ (x : Done). image_of x.card) (sym e)
card-left k (suc number) done d e = ap (λ (x : Done). image_of x.card) (sym e)
