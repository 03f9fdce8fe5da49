-- `lent::afresh::start_over` meets its contract: in range it is the start by value, and out of range the card stays. Assumes nothing.
use mathlib.Core.Path.{sym, ◌∙◌}
use Rattle.path.specs.Sizes.{sizes_of}
use Rattle.lent.proofs.StartLaws.{started-over, stays-over}
use Rattle.lent.proofs.afresh.start_over.Goals as goal

pub returns-then-in_range : goal.returns-then-in_range
returns-then-in_range c =
    let s = c.args in
    started-over s.card (sizes_of s.h s.z s.r s.t) _ c.start-done.ensures (sym c.in_range.ensures ∙ c.if-in_range.true)

pub returns : goal.returns
returns c =
    let s = c.args in
    stays-over s.card (sizes_of s.h s.z s.r s.t) _ c.start-done.ensures (sym c.in_range.ensures ∙ c.if-in_range.false)
