-- Finish on a ready card, for whatever request waits, by the definitions of finish itself: it is not Damaged, and the card
-- that comes out is ready, with the tree into which the rack has stored the whole buckets and the events that are then
-- live. Assumes nothing.
use Prim.Native.Nat.{ℕ, ◌≤◌}
use mathlib.Core.Bool.{false}
use mathlib.Core.List.{List}
use mathlib.Core.Path.{◌≡◌}
use lib.ListN.{length}
use Rattle.std.specs.Prelude.{Some}
use Rattle.record.specs.declared.Record.{Record}
use Rattle.record.specs.Standing.{dummy_key}
use Rattle.refusal.specs.Refusal.{first_given}
use Rattle.settle.specs.Left.{words_left}
use Rattle.copies.specs.Copy.{fetched, stored}
use Rattle.card.specs.declared.Card.{Card}
use Rattle.request.specs.declared.Request.{Request}
use Rattle.request.specs.declared.Request.TheVariants.{Insert, Extract, Delete}
use Rattle.card.specs.Tables.{parts_of}
use Rattle.card.specs.Calls.{list_of}
use Rattle.card.specs.Finish.{left_by, damaged_by, card_left, words_needed, finish_table}
use Rattle.card.proofs.FinishLaws.{words-enough}
use Rattle.card.proofs.FinishedLaws.{gives_none}
use Rattle.served.specs.Ready.{Ready}
use Rattle.served.specs.LiveAfter.{live_after}
use Rattle.served.proofs.CallLaws.{ready-card, ready-least}
use Rattle.served.proofs.FinishLaws.{extract-undamaged, extract-ready, delete-undamaged, delete-ready, insert-undamaged, insert-ready}

-- an Insert's key is a 64-bit number
abbrev pub WordKey : Request → Type 0
WordKey (Insert key value label first second) = key ≤ dummy_key
WordKey Extract = Unit {0}
WordKey (Delete label stamp) = Unit {0}

module _ (k : Card) (tree words : List ℕ) (live : List Record) (r : Ready k tree live) where
  abbrev shown : Request → List ℕ
  shown q = fetched k.sizes.z tree (list_of k q) words

  -- 12 is not given
  pub finish-undamaged : (q : Request) → k.waiting ≡ Some q → WordKey q → damaged_by k q (shown q) ≡ false
  unfolding damaged_by list_of
  finish-undamaged (Insert key value label first second) e word = insert-undamaged k tree words live r key value label first second e word
  finish-undamaged Extract e word = extract-undamaged k tree words live r e
  finish-undamaged (Delete label stamp) e word = delete-undamaged k tree words live r label stamp e

  -- ready again, with the events that are then live
  pub finish-ready : (q : Request) → k.waiting ≡ Some q → WordKey q
      → Ready (card_left k (left_by k q (shown q))) (stored k.sizes.z (list_of k q).whole (words_left (left_by k q (shown q)) (shown q)) tree)
      (live_after (parts_of k) live q)
  unfolding left_by list_of live_after
  finish-ready (Insert key value label first second) e word = insert-ready k tree words live r key value label first second e word
  finish-ready Extract e word = rw (← ready-least k tree live r) (extract-ready k tree words live r e)
  finish-ready (Delete label stamp) e word = delete-ready k tree words live r label stamp e

  -- nothing is refused: neither 13, nor 3, nor 12, nor 11 where the words are those of the list or more
  module _ (q : Request) (busy : k.waiting ≡ Some q) (word : WordKey q) (room : words_needed k q ≤ length (shown q)) where
    pub finish-passes : first_given (finish_table k (shown q)) ≡ 0
    finish-passes = gives_none k _ q busy (words-enough k _ q (ready-card k tree live r) busy room) (finish-undamaged q busy word)
