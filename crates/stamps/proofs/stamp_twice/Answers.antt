-- `stamp_twice`: no record looked at so far has a stamp that stands again behind it. Assumes nothing.
use native.Mathlib.Omega.{arith}
use mathlib.Core.Path.{sym, ◌∙◌}
use Rattle.stamps.proofs.StampLaws.{twice_found, twice-skips, twice-turns, twice_ends}
use Rattle.stamps.proofs.stamp_twice.Goals as goal
use Rattle.stamps.proofs.stamp_twice.Goals.{else-not-is_dummy-via-then-not-is_dummy+else-is_borne, else-not-is_dummy-via-else-not-is_dummy}

pub returns-then-is_borne : goal.returns-then-is_borne
returns-then-is_borne c =
    let read = c.read-one.ensures in
    let real = rw read at (sym c.is_dummy.ensures ∙ c.if-not-is_dummy.true) in
    let again = rw read at (sym c.is_borne.ensures ∙ c.if-is_borne.true) in
    twice_found _ _ (omega arith) real again ∙ sym c.loop-i.invariant

pub loop-i-preserved : goal.loop-i-preserved
loop-i-preserved c =
    let read = c.read-one.ensures in
    c.loop-i.invariant
    ∙ elim c.else-not-is_dummy.branch [
      | else-not-is_dummy-via-then-not-is_dummy+else-is_borne w ↦ twice-turns _ _ (omega arith) (rw read at (sym w.is_borne.ensures ∙ w.if-is_borne.false))
      | else-not-is_dummy-via-else-not-is_dummy w ↦ twice-skips _ _ (omega arith) (rw read at (sym c.is_dummy.ensures ∙ w.if-not-is_dummy.false))
    ]

pub returns : goal.returns
returns c = twice_ends _ _ c.loop-i-test.false ∙ sym c.loop-i.invariant
