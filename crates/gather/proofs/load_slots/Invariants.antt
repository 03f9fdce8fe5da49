-- `load_slots` meets its contract: the loop has laid the slots of so many buckets. Assumes nothing.
use Rattle.gather.specs.Shown.{slots_shown}
use Rattle.gather.proofs.Loading.{Laying}
use Rattle.gather.proofs.load_slots.Given as goal

abbrev pub invariant-loop-i : goal.invariant-loop-i
invariant-loop-i l = Laying l.initial.w l.at (slots_shown l.z l.words l.from l.i) l.w
