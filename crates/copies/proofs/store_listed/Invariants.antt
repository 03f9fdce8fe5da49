-- `copies::store_listed` meets its contract. The loop: `Storing`. Assumes nothing.
use Rattle.copies.proofs.MoveLaws.{Storing}
use Rattle.copies.proofs.store_listed.Given as goal

abbrev pub invariant-loop-number : goal.invariant-loop-number
invariant-loop-number l = Storing l.z l.list l.whole l.words l.initial.tree l.tree l.at l.number-index
