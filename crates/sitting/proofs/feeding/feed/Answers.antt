-- `sitting::feeding::feed` meets its contract. The loop: `Feeding`. Assumes nothing.
use borrow.Author.Rules.{rules}
use native.Mathlib.Omega.{arith}
use mathlib.Core.Path.{◌≡◌, sym}
use lib.ListN.{length}
use lib.Seq.{length-take-le}
use Rattle.gather.proofs.RootLaws.{length-mapped}
use Rattle.frames.proofs.TakeLaws.{takes-within, takes-room}
use Rattle.output.proofs.FeedLaws.{feeding-starts, feeding-room}
use Rattle.sitting.proofs.TurnLaws.{room-left, turn-takes, turn-open, turn-ended, feeding-ends}
use Rattle.sitting.proofs.feeding.feed.Goals as goal

pub loop-line-init : goal.loop-line-init
loop-line-init c =
    let s = c.args in
    let long : length s.sitting.line ≡ 129 = search (rules, length-mapped, c.well_formed) in
    feeding-starts _ _ _ _ _ _ long (omega (arith, c.min-held.ensures))

pub overflow_sub-out : goal.overflow_sub-out
overflow_sub-out c = room-left _ _ _ _ _ _ _ _ _ _ c.loop-line.invariant

pub slice_bounds-take_line-end : goal.slice_bounds-take_line-end
slice_bounds-take_line-end c = sym c.loop-line.invariant.line_room

pub slice_bounds-line-end : goal.slice_bounds-line-end
slice_bounds-line-end c =
    let t = c.take_line-got.ensures in
    omega (arith, takes-within _ _ _ _ _ _ t, takes-room _ _ _ _ _ _ t)

pub slice_bounds-answer_line-end : goal.slice_bounds-answer_line-end
slice_bounds-answer_line-end c =
    let t = c.take_line-got.ensures in
    sym (length-take-le _ _ (omega (arith, takes-within _ _ _ _ _ _ t, takes-room _ _ _ _ _ _ t)))

pub slice_bounds-answer_line-end-then-got : goal.slice_bounds-answer_line-end-then-got
slice_bounds-answer_line-end-then-got c = omega (arith, room-left _ _ _ _ _ _ _ _ _ _ c.loop-line.invariant)

pub slice_bounds-answer_line-count : goal.slice_bounds-answer_line-count
slice_bounds-answer_line-count c = room-left _ _ _ _ _ _ _ _ _ _ c.loop-line.invariant

pub slice_bounds-answer_line-start : goal.slice_bounds-answer_line-start
slice_bounds-answer_line-start c = omega (arith, room-left _ _ _ _ _ _ _ _ _ _ c.loop-line.invariant)

pub overflow_add-written : goal.overflow_add-written
overflow_add-written c =
    let good = c.well_formed in
    let room = feeding-room _ _ _ _ _ _ _ _ _ _ c.loop-line.invariant in
    let f = turn-ended _ _ _ _ _ _ _ _ _ _ c.loop-line.invariant _ c.goes_on.ensures c.loop-line-test.true _ _ c.take_line-got.ensures c.if-got.true _ _ _ c.answer_line-bytes.ensures (omega arith) in
    omega (arith, f.fits)

pub loop-line-smaller-then-got : goal.loop-line-smaller-then-got
loop-line-smaller-then-got c =
    omega (arith, turn-takes _ _ _ _ _ _ _ _ _ _ c.loop-line.invariant _ c.goes_on.ensures c.loop-line-test.true _ _ c.take_line-got.ensures)

pub loop-line-preserved-then-got : goal.loop-line-preserved-then-got
loop-line-preserved-then-got c =
    turn-ended _ _ _ _ _ _ _ _ _ _ c.loop-line.invariant _ c.goes_on.ensures c.loop-line-test.true _ _ c.take_line-got.ensures c.if-got.true _ _ _ c.answer_line-bytes.ensures (omega arith)

pub loop-line-smaller : goal.loop-line-smaller
loop-line-smaller c =
    omega (arith, turn-takes _ _ _ _ _ _ _ _ _ _ c.loop-line.invariant _ c.goes_on.ensures c.loop-line-test.true _ _ c.take_line-got.ensures)

pub loop-line-preserved : goal.loop-line-preserved
loop-line-preserved c =
    turn-open _ _ _ _ _ _ _ _ _ _ c.loop-line.invariant _ c.goes_on.ensures c.loop-line-test.true _ _ c.take_line-got.ensures c.if-got.false

pub slice_bounds-clear-end : goal.slice_bounds-clear-end
slice_bounds-clear-end c = sym c.loop-line.invariant.line_room

pub shape_of-tree : goal.shape_of-tree
shape_of-tree c = c.loop-line.invariant.tree_room

pub shape_of-out : goal.shape_of-out
shape_of-out c = feeding-room _ _ _ _ _ _ _ _ _ _ c.loop-line.invariant

pub returns : goal.returns
returns c =
    let s = c.args in
    let long : length s.sitting.line ≡ 129 = search (rules, length-mapped, c.well_formed) in
    feeding-ends s.sitting s.tree.now s.chunk.now s.out.now _ long c.min-held.ensures _ _ _ _ _ _ _ _ c.loop-line.invariant _ c.goes_on.ensures c.loop-line-test.false c.clear.ensures
