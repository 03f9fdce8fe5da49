use native.Mathlib.Omega.{arith}
use Rattle.lists.proofs.ListLaws.{length-pair-numbers}
use Rattle.examples.proofs.paths.pair_line.Goals as goal

pub list_pair-counts-requires-clause-second_in_bounds :
    goal.list_pair-counts-requires-clause-second_in_bounds
list_pair-counts-requires-clause-second_in_bounds g c =
    let s = c.args in
    let n = length-pair-numbers s.sizes.h s.first s.second (omega arith) in
    omega arith
