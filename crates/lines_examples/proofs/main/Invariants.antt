-- `lines_examples::main` is safe and ends. The loop: what is held fits. Assumes nothing.
use Rattle.std.proofs.Common.{◌≤◌}
use Rattle.lines_examples.proofs.main.Given as goal

abbrev pub invariant-loop : goal.invariant-loop
invariant-loop l = l.held ≤ 129
