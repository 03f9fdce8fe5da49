-- `decimal::read` meets its contract. The loop: `Scanning`. Assumes nothing.
use Rattle.decimal.proofs.FieldLaws.{Scanning}
use Rattle.decimal.proofs.read.Given as goal

abbrev pub invariant-loop-b : goal.invariant-loop-b
invariant-loop-b l = Scanning l.field l.n l.b-index
