use Rattle.record.specs.Standing.{is_dummy}
use Rattle.record.proofs.Record.is_dummy.Goals as goal

pub returns : goal.returns
unfolding is_dummy
returns c = c.same.ensures
