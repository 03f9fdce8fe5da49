use Rattle.record.specs.Standing.{same}
use Rattle.record.proofs.Record.same.Goals as goal

pub returns : goal.returns
unfolding same
returns c = c.eq.ensures
