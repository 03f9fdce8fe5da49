use Rattle.record.specs.Order.{smaller_by}
use Rattle.record.proofs.Record.smaller.Goals as goal

pub returns-then-no_later : goal.returns-then-no_later
unfolding smaller_by
returns-then-no_later c = λ rule. rw (← c.no_later.ensures rule, c.if-no_later.true)

pub returns : goal.returns
unfolding smaller_by
returns c = λ rule. rw (← c.no_later.ensures rule, c.if-no_later.false)
