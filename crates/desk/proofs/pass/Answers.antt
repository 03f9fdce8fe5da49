-- `desk::pass` is safe and ends: what was printed lies within the room, and each turn takes at least one byte of the chunk. Assumes nothing.
use mathlib.Core.Path.{sym}
use native.Mathlib.Omega.{arith}
use lib.ListN.{length-take, length-drop}
use lib.Seq.{length-take-le}
use Rattle.sitting.proofs.LoopLaws.{feeds-within, feeds-some, written-within}
use Rattle.desk.proofs.pass.Goals as goal

pub slice_bounds-out-end : goal.slice_bounds-out-end
slice_bounds-out-end g c = written-within _ _ _ _ _ _ _ c.feed-fed.ensures

pub slice_bounds-write_all-end : goal.slice_bounds-write_all-end
slice_bounds-write_all-end g c = sym (length-take-le _ _ (written-within _ _ _ _ _ _ _ c.feed-fed.ensures))

pub slice_bounds-rest-start : goal.slice_bounds-rest-start
slice_bounds-rest-start g c = feeds-within _ _ _ _ _ _ _ c.feed-fed.ensures

pub slice_bounds-rest-count : goal.slice_bounds-rest-count
slice_bounds-rest-count g c = feeds-within _ _ _ _ _ _ _ c.feed-fed.ensures

pub loop-rest-smaller : goal.loop-rest-smaller
loop-rest-smaller g c =
    let within = feeds-within _ _ _ _ _ _ _ c.feed-fed.ensures in
    let some = feeds-some _ _ _ _ _ _ _ c.feed-fed.ensures (omega arith) (omega arith) in
    simp (length-take, length-drop) (omega (arith, within, some))
