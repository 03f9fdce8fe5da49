use native.Mathlib.Omega.{arith}
use Rattle.lists.proofs.ListLaws.{length-path-numbers}
use Rattle.examples.proofs.paths.path_line.Goals as goal

pub list_path-counts-requires-clause-leaf_in_bounds :
    goal.list_path-counts-requires-clause-leaf_in_bounds
list_path-counts-requires-clause-leaf_in_bounds g c =
    let s = c.args in
    let n = length-path-numbers s.sizes.h s.leaf in
    omega arith
