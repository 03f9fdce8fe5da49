-- `desk::pass` is safe and ends: each turn takes at least one byte of the chunk. Assumes nothing.
use Rattle.std.proofs.Common.{length}
use Rattle.desk.proofs.pass.Given as goal

abbrev pub decreases-loop-rest : goal.decreases-loop-rest
decreases-loop-rest g l = length l.rest
