use mathlib.Core.Path.{sym, ap, ◌∙◌}
use mathlib.Core.Bool.{not, or-false}
use borrow.Author.Tests.{eq-eqb, ne_eqb}
use Rattle.record.specs.Standing.{may_stand}
use Rattle.judge.specs.BadParts.{odd_least}
use Rattle.judge.proofs.is_least_odd.Goals as goal

pub returns-then-is_dummy : goal.returns-then-is_dummy
unfolding odd_least may_stand
returns-then-is_dummy c = rw (sym c.is_dummy.ensures ∙ c.if-is_dummy.true, or-false)

pub returns-then-c-eq0 : goal.returns-then-c-eq0
unfolding odd_least
returns-then-c-eq0 c =
    rw (sym c.is_dummy.ensures ∙ c.if-is_dummy.false, eq-eqb _ _ c.if-c-eq0.true)

pub returns-else-c-eq0 : goal.returns-else-c-eq0
unfolding odd_least may_stand
returns-else-c-eq0 c =
    rw (sym c.is_dummy.ensures ∙ c.if-is_dummy.false, ne_eqb _ _ c.if-c-eq0.false) (ap not c.is_proper.ensures)
