-- What a call leaves where the driver lent it: document 01, "Any refusal returns its number with every other field 0; card
-- and lent slices are as before". The answer is what a call returns, by way of a pointer: all its six words are written, whatever
-- stood there. Primes mark what stands after the call. Assumes nothing.
use Rattle.std.specs.Prelude.{ℕ, List, ◌≡◌}
use Rattle.answers.specs.declared.Answer.{Answer}
use Rattle.card.specs.declared.Done.{Done}
use Rattle.answers.specs.Answers.{number_of, values_of, no_values}
use Rattle.image.specs.Image.{image_of}
use Rattle.refusal.specs.Refusal.{afterwards}

-- The refusal's number is returned, 0 for none, and the six words of the answer are these values.
pub record Said (refusal : ℕ) (values : List ℕ) (n : ℕ) (told' : List ℕ) : Type 0 where
  pub number : n ≡ refusal
  pub answer : told' ≡ values

-- A call with this refusal, 0 for none, that answers `a`: "Any refusal returns its number with every other field 0".
abbrev pub Answering : ℕ → Answer → ℕ → List ℕ → Type 0
Answering refusal a = Said refusal (afterwards refusal (values_of a) no_values)

-- And one that comes to `done`: unless it is refused, the card's words are those of the new card.
pub record Called (refusal : ℕ) (done : Done) (held : List ℕ) (n : ℕ) (held' told' : List ℕ) : Type 0 where
  pub said : Answering refusal done.answer n told'
  pub card : held' ≡ afterwards refusal (image_of done.card) held

-- What a call on a card hands back, told to the driver: the answer's number and values, and the new card unless it is a refusal.
pub record Settled (done : Done) (held : List ℕ) (n : ℕ) (held' told' : List ℕ) : Type 0 where
  pub said : Said (number_of done.answer) (values_of done.answer) n told'
  pub card : held' ≡ afterwards (number_of done.answer) (image_of done.card) held

-- A call on a rack answers nothing but its number, refused or not.
abbrev pub Zeroed : ℕ → ℕ → List ℕ → Type 0
Zeroed refusal = Said refusal no_values
