-- What each call by a driver comes to, on every input. Primes mark what stands after the call. Assumes nothing.
use Rattle.std.specs.Prelude.{ℕ, List, ◌∷◌, ◌≡◌, length}
use Rattle.lists.specs.BucketList.{laid}
use Rattle.refusal.specs.Refusal.{Refusal, row, first_given, afterwards}
use Rattle.card.specs.declared.Card.{Card}
use Rattle.card.specs.declared.Done.{Done}
use Rattle.request.specs.declared.Request.{Request}
use Rattle.answers.specs.Answers.{number_of, values_of}
use Rattle.card.specs.Calls.{list_of, begin_table, begun, min_table, found_min}
use Rattle.card.specs.Finish.{finish_table, finished, words_for}
use Rattle.image.specs.Image.{image_of}
use Rattle.image.specs.Reading.{card_in, odd_kind}
use Rattle.told.specs.Told.{Said, Answering, Called, Zeroed}

-- the number of a call on the card of some words: 13 for a kind above 3, then as the card's own table says
abbrev pub on_card : List ℕ → (Card → List Refusal) → ℕ
on_card ws table = first_given (row 13 (odd_kind ws) ∷ table (card_in ws))

-- A begin of request r, which names buckets in a lent list: places past the last number stay.
abbrev pub begin_number : Request → List ℕ → List ℕ → ℕ
begin_number r held list = on_card held (λ k. begin_table k r (length list))

pub record BeginsAt (r : Request) (held list : List ℕ) (n : ℕ) (held' told' list' : List ℕ) : Type 0 where
  pub call : Called (begin_number r held list) (begun (card_in held) r) held n held' told'
  pub places : list' ≡ afterwards (begin_number r held list) (laid (list_of (card_in held) r) list) list

-- FindMin: "It leaves the card unchanged". Its words are lent to be read, so that the answer is all that it leaves.
abbrev pub FindsMin : List ℕ → ℕ → List ℕ → Type 0
FindsMin held = Answering (on_card held min_table) (found_min (card_in held)).answer

-- A finish of the request that waits: "each bucket's part of the fetched words is written where it stands; sibling words,
-- and any words past the list, stay".
abbrev pub finish_number : List ℕ → List ℕ → ℕ
finish_number held ws = on_card held (λ k. finish_table k ws)

pub record FinishesAt (held before : List ℕ) (n : ℕ) (held' told' after : List ℕ) : Type 0 where
  pub call : Called (finish_number held before) (finished (card_in held) before) held n held' told'
  pub words : after ≡ afterwards (finish_number held before) (words_for (card_in held) (card_in held).waiting before) before

-- A call on a rack with this refusal, which writes what is due to the slice that was lent for it.
pub record Racked (refusal : ℕ) (due before : List ℕ) (n : ℕ) (told' after : List ℕ) : Type 0 where
  pub call : Zeroed refusal n told'
  pub lent : after ≡ afterwards refusal due before

-- "and equals the first": what a call by value hands back is what stands where the driver lent it, refused or not.
pub record EqualsFirst (d : Done) (n : ℕ) (held' told' : List ℕ) : Type 0 where
  pub said : Said (number_of d.answer) (values_of d.answer) n told'
  pub card : held' ≡ image_of d.card
