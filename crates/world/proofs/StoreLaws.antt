-- A store is refused only where its fetch was: the words that finish leaves are no fewer than those that were lent. Assumes nothing.
use Prim.Native.Nat.{ℕ, zero, suc, ◌≤◌}
use mathlib.Core.List.{List, ◌++◌}
use mathlib.Core.Path.{◌≡◌, refl}
use native.Mathlib.Omega.{arith}
use lib.ListN.{length, drop, length-append, length-drop}
use Rattle.std.specs.Prelude.{Option, None, Some}
use Rattle.lists.specs.BucketList.{BucketList}
use Rattle.mend.specs.Mended.{path_words}
use Rattle.settle.specs.Left.{Left, words_left}
use Rattle.refusal.specs.Refusal.{afterwards}
use Rattle.copies.specs.Copy.{fetched_words, fetched}
use Rattle.rack.proofs.RefusalLaws.{copy-passes, passes-copy}
use Rattle.card.specs.declared.Card.{Card}
use Rattle.card.specs.Finish.{left_by, words_for}
use Rattle.world.specs.World.{World, held, rack_number, shown, finish_number, words_after, after_finish}
use Rattle.request.specs.declared.Request.{Request}

-- words once fetched into, and words once finished, are no fewer
over-length : (xs ws : List ℕ) → length ws ≤ length (xs ++ drop (length xs) ws)
over-length xs ws = rw (length-append, length-drop) (omega arith)

pub fetched-room : (z : ℕ) (tree : List ℕ) (l : BucketList) (words : List ℕ) → length words ≤ length (fetched z tree l words)
fetched-room z tree l words = over-length (fetched_words z tree l) words

pub left-room : (l : Left) (ws : List ℕ) → length ws ≤ length (words_left l ws)
left-room l ws = over-length (path_words l.buckets) ws

-- refused or not
either_room : (n : ℕ) (done before words : List ℕ) → length words ≤ length done → length words ≤ length before
    → length words ≤ length (afterwards n done before)
either_room zero done before words l m = l
either_room (suc n) done before words l m = m

waiting-room : (k : Card) (w : Option Request) (ws : List ℕ) → length ws ≤ length (words_for k w ws)
waiting-room k None ws = omega arith
waiting-room k (Some r) ws = left-room (left_by k r ws) ws

none-stored : (n number : ℕ) → number ≡ 0 → afterwards n number 0 ≡ 0
none-stored zero number z = z
none-stored (suc n) number z = refl

module _ (u : World) (words : List ℕ) where
  more-words : (ws : List ℕ) → length words ≤ length ws → rack_number u words ≡ 0 → rack_number u ws ≡ 0
  more-words ws more e =
      let p = copy-passes u.card.sizes.h u.card.sizes.z (length u.tree) u.list u.counts.whole u.counts.least (length words) e in
      passes-copy u.card.sizes.h u.card.sizes.z (length u.tree) u.list u.counts.whole u.counts.least (length ws)
      (record { passes = p.passes; counted = p.counted; room = omega (arith, p.room, more); inside = p.inside })

  pub store-passes : (after_finish u words).fetch ≡ 0 → (after_finish u words).store ≡ 0
  unfolding after_finish
  store-passes e =
      let ws = shown u words in
      let fetch = either_room (rack_number u words) (fetched u.card.sizes.z u.tree (held u) words) words words
      (fetched-room u.card.sizes.z u.tree (held u) words) (omega arith) in
      let finish = either_room (finish_number u ws) (words_for u.card u.card.waiting ws) ws ws
      (waiting-room u.card u.card.waiting ws) (omega arith) in
      none-stored (finish_number u ws) (rack_number u (words_after u ws)) (more-words (words_after u ws) (omega (arith, fetch, finish)) e)
