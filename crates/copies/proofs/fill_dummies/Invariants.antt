-- `copies::fill_dummies` meets its contract. The loop: `Filling`. Assumes nothing.
use Rattle.copies.proofs.CopyLaws.{Filling}
use Rattle.copies.proofs.fill_dummies.Given as goal

abbrev pub invariant-loop-place : goal.invariant-loop-place
invariant-loop-place l = Filling l.initial.tree l.tree l.place
