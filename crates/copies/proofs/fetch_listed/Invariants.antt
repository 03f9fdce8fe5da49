-- `copies::fetch_listed` meets its contract. The loop: `Fetching`. Assumes nothing.
use Rattle.copies.proofs.MoveLaws.{Fetching}
use Rattle.copies.proofs.fetch_listed.Given as goal

abbrev pub invariant-loop-i : goal.invariant-loop-i
invariant-loop-i l = Fetching l.z l.tree l.list l.whole l.least l.initial.words l.words l.at l.i
