-- `decimal::print` meets its contract. The loop: `Spelling`. Assumes nothing.
use Rattle.decimal.proofs.PrintLaws.{Spelling}
use Rattle.decimal.proofs.print.Given as goal

abbrev pub invariant-loop-i : goal.invariant-loop-i
invariant-loop-i l = Spelling l.n l.k l.initial.out l.rest l.i l.out
