-- `leasts_true` meets its contract: the levels before `level` have passed. Assumes nothing.
use Rattle.record.specs.declared.Rule.{Rule}
use Rattle.truth.specs.Leasts.{true_at}
use Rattle.sound.specs.Fetched.{fetched_in}
use Rattle.sound.proofs.Checking.{Passed}
use Rattle.truth.proofs.leasts_true.Given as goal

abbrev pub invariant-loop-level : goal.invariant-loop-level
invariant-loop-level l =
    (rule : Rule) → Passed (true_at l.sizes.h rule (fetched_in l.sizes.z l.leaf l.path l.sibs)) l.sizes.h 1 l.level
