-- `fields::read_numbers` meets its contract. The loop: `Walking`. Assumes nothing.
use Rattle.fields.proofs.WalkLaws.{Walking}
use Rattle.fields.proofs.read_numbers.Given as goal

abbrev pub invariant-loop-place : goal.invariant-loop-place
invariant-loop-place l = Walking l.line l.from l.initial.out l.at l.place-index l.out
