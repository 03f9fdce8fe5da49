-- `kids_least`: the lower child first, whichever of the two it is. Assumes nothing.
use mathlib.Core.Path.{◌∙◌}
use borrow.Author.Tests.{eq-eqb, ne_eqb}
use Rattle.record.specs.Order.{smallest_by}
use Rattle.least.specs.Least.{in_order}
use Rattle.least.proofs.kids_least.Goals as goal

pub returns-then-bucket-eq0 : goal.returns-then-bucket-eq0
unfolding in_order smallest_by
returns-then-bucket-eq0 c = λ rule.
    c.smaller-then-bucket-eq0.ensures rule ∙ rw (c.smaller.ensures rule, eq-eqb _ _ c.if-bucket-eq0.true)

pub returns : goal.returns
unfolding in_order smallest_by
returns c = λ rule.
    c.smaller-3.ensures rule ∙ rw (c.smaller-2.ensures rule, ne_eqb _ _ c.if-bucket-eq0.false)
