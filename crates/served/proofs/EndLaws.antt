-- Fetch, finish and store on a ready card, by the list that begin laid in any places: refused for too few words alone, and else done,
-- with the tree that the laws of finish speak of. Assumes nothing.
use Prim.Native.Nat.{ℕ, ◌≤◌, ◌<◌}
use mathlib.Core.List.{List, ◌++◌}
use mathlib.Core.Path.{◌≡◌, sym, ap, ◌∙◌}
use native.Mathlib.Omega.{arith}
use lib.ListN.{length, drop, length-append, length-map}
use borrow.Author.Tests.{lt-ltb}
use Rattle.std.specs.Prelude.{Option, Some}
use Rattle.record.specs.declared.Record.{Record}
use Rattle.path.specs.Path.{number}
use Rattle.path.proofs.SizesLaws.{tree-range}
use Rattle.lists.specs.BucketList.{BucketList, numbers, laid, counts}
use Rattle.request.specs.declared.Request.{Request}
use Rattle.settle.specs.Left.{Left, words_left}
use Rattle.copies.specs.Copy.{fetched, stored}
use Rattle.rack.proofs.ListedLaws.{listed-laid, laid-passes}
use Rattle.rack.proofs.RefusalLaws.{refuses-words}
use Rattle.card.specs.declared.Card.{Card}
use Rattle.card.specs.Answers.{or_refused}
use Rattle.card.specs.Calls.{list_of}
use Rattle.card.specs.Finish.{left_by, card_left, words_needed, finished_by, finished_for, finished, words_for}
use Rattle.world.specs.World.{World, holding_list, unlisted, Outcome, rack_number, shown, finish_number, finishing, after_finish}
use Rattle.world.proofs.StoreLaws.{fetched-room, left-room}
use Rattle.served.specs.Ready.{Ready}
use Rattle.served.proofs.CallLaws.{waiting-taken}
use Rattle.served.proofs.RackLaws.{list_inside}
use Rattle.served.proofs.FinishedLaws.{WordKey, finish-passes}

-- the words that are fetched for a request, and what its finish leaves of them
module _ (k : Card) (tree : List ℕ) (a : Request) (words : List ℕ) where
  abbrev pub words_shown : List ℕ
  words_shown = fetched k.sizes.z tree (list_of k a) words

  abbrev pub work_left : Left
  work_left = left_by k a words_shown

  -- what is left when fetch, finish and store are done
  abbrev pub served_by : Outcome
  served_by =
      record {
        world = unlisted (card_left k work_left) (stored k.sizes.z (list_of k a).whole (words_left work_left words_shown) tree);
        answer = (finished_by k a work_left).answer;
        fetch = 0;
        store = 0;
      }

module _ (k : Card) (tree places : List ℕ) (live : List Record) (r : Ready k tree live) (a : Request) (busy : k.waiting ≡ Some a) where
  abbrev l : BucketList
  l = list_of k a

  abbrev u : World
  u = holding_list k tree (laid l places) (counts l)

  -- the rack's number for the list that begin laid
  rack-passes : (ws : List ℕ) → words_needed k a ≤ length ws → rack_number u ws ≡ 0
  unfolding list_of
  rack-passes ws room =
      laid-passes l places k.sizes.h k.sizes.z (length tree) (length ws) (tree-range k.sizes r.heap.sizes) r.heap.words
      (list_inside k tree live r a (waiting-taken k tree live a r busy)) room

  pub rack-short : (ws : List ℕ) → length ws < words_needed k a → rack_number u ws ≡ 11
  unfolding list_of
  rack-short ws few =
      let covered = length-map (l.whole ++ l.least) number ∙ length-append l.whole l.least in
      sym (refuses-words (record { sizes = tree-range k.sizes r.heap.sizes; whole-tree = r.heap.words }) (laid l places) (length l.whole) (length l.least) (length ws)
      (omega (arith, length-append (numbers l) (drop (length (numbers l)) places), covered)) (lt-ltb _ _ few))

  -- with words enough nothing is refused
  module _ (word : WordKey a) (words : List ℕ) (room : words_needed k a ≤ length words) where
    abbrev ws : List ℕ
    ws = words_shown k tree a words

    abbrev out : Left
    out = work_left k tree a words

    shown-is : shown u words ≡ ws
    shown-is = rw (rack-passes words room) (ap (λ (m : BucketList). fetched k.sizes.z tree m words) (listed-laid l places))

    passes : finish_number u ws ≡ 0
    passes = finish-passes k tree words live r a busy word (omega (arith, room, fetched-room k.sizes.z tree l words))

    stores : rack_number u (words_left out ws) ≡ 0
    stores = rack-passes (words_left out ws) (omega (arith, room, fetched-room k.sizes.z tree l words, left-room out ws))

    done-is : finished k ws ≡ finished_by k a out
    done-is = ap (λ (w : Option Request). finished_for k w ws) busy

    after_is : words_for k k.waiting ws ≡ words_left out ws
    after_is = ap (λ (w : Option Request). words_for k w ws) busy

    finishing-done : finishing u 0 ws ≡ served_by k tree a words
    unfolding or_refused finished_by
    finishing-done =
        let answer = done-is in
        let list = listed-laid l places in
        let words_are = after_is in
        let number : rack_number u (words_for k k.waiting ws) ≡ 0 = ap (rack_number u) after_is ∙ stores in
        rw (passes, number) (λ i.
        record {
          world = unlisted (answer i).card (stored k.sizes.z (list i).whole (words_are i) tree);
          answer = (answer i).answer;
          fetch = 0;
          store = 0;
        })

    pub finish-ends : after_finish u words ≡ served_by k tree a words
    unfolding after_finish
    finish-ends =
        let number = rack-passes words room in
        let words_are = shown-is in
        let same : finishing u (rack_number u words) (shown u words) ≡ finishing u 0 ws = λ i. finishing u (number i) (words_are i) in
        same ∙ finishing-done
