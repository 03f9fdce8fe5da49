use borrow.Author.Rules.{rules}
use Rattle.record.specs.Standing.{known}
use Rattle.record.proofs.Stamp.is_known.Goals as goal

pub returns : goal.returns
unfolding known
returns c = search rules
