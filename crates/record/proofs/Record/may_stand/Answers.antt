use Rattle.record.specs.Standing.{may_stand}
use Rattle.record.proofs.Record.may_stand.Goals as goal

pub returns-then-is_dummy : goal.returns-then-is_dummy
unfolding may_stand
returns-then-is_dummy c = rw (← c.is_dummy.ensures, c.if-is_dummy.true)

pub returns : goal.returns
unfolding may_stand
returns c = rw (← c.is_dummy.ensures, c.if-is_dummy.false) c.is_proper.ensures
