-- `fields::read_numbers` meets its contract. The loop: `Walking`. Assumes nothing.
use native.Mathlib.Omega.{arith}
use lib.Seq.{set-get_or}
use mathlib.Core.Path.{sym, ◌∙◌}
use Rattle.fields.proofs.WalkLaws.{walking-starts, walk-short, walk_refused, walk-turns, walk_ends, field-within}
use Rattle.fields.proofs.read_numbers.Goals as goal

pub loop-place-init : goal.loop-place-init
loop-place-init c = walking-starts _ _ _

pub returns-then-at-line : goal.returns-then-at-line
returns-then-at-line c =
    let walked = walk-short _ _ _ _ _ _ c.loop-place.invariant c.if-at-line.true (omega (arith, c.loop-place.invariant)) in
    rw (← set-get_or c.loop-place.out c.loop-place.place-index 0) at walked

pub slice_bounds-read-end : goal.slice_bounds-read-end
slice_bounds-read-end c = field-within c.args.line.now _ _ c.end_of-at.ensures (omega arith)

pub returns-in_default : goal.returns-in_default
returns-in_default c =
    let walked =
    walk_refused _ _ _ _ _ _ c.loop-place.invariant c.if-at-line.false _ c.end_of-at.ensures (omega (arith, c.loop-place.invariant))
    (sym c.read.ensures ∙ c.in_default.is) in
    rw (← set-get_or c.loop-place.out c.loop-place.place-index 0) at walked

pub loop-place-preserved : goal.loop-place-preserved
loop-place-preserved c =
    walk-turns _ _ _ _ _ _ c.loop-place.invariant c.if-at-line.false _ c.end_of-at.ensures (omega (arith, c.loop-place.invariant))
    _ (sym c.read.ensures ∙ c.in-Some.is)

pub returns : goal.returns
returns c = walk_ends _ _ _ _ _ _ c.loop-place.invariant (omega (arith, c.loop-place.invariant))
