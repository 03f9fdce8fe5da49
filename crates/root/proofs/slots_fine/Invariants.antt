use Rattle.root.proofs.Slots.{Fine}
use Rattle.root.proofs.slots_fine.Given as goal

abbrev pub invariant-loop-i : goal.invariant-loop-i
invariant-loop-i l = Fine l.slots l.rule l.least l.i l.count
