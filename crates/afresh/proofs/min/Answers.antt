-- `afresh::min` meets its contract: `?`, or the answer of FindMin. Assumes nothing.
use Rattle.steps.proofs.AskedLaws.{min-unsized, min-sized}
use Rattle.afresh.proofs.min.Goals as goal

pub returns-in_default : goal.returns-in_default
returns-in_default c = min-unsized c.args.desk.now _ c.in_default.not-Some c.unread_by.ensures

pub returns : goal.returns
returns c = min-sized c.args.desk.now _ _ c.in-Some.is _ c.find_min.ensures c.told_by.ensures
