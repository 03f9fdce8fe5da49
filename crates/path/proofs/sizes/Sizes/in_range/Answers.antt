-- The last range, in parts: so a bound that is off is refused at its part. Assumes nothing.
use borrow.Author.Rules.{rules}
use mathlib.Core.Bool.{true}
use mathlib.Core.Path.{◌≡◌}
use Rattle.path.specs.Sizes.{in_range, tree_in, root_in, most_in, between}
use Rattle.path.proofs.sizes.Sizes.in_range.Goals as goal
use Rattle.path.proofs.sizes.Sizes.in_range.Goals.{then-tree_in_range, else-tree_in_range}

pub returns-then-contains : goal.returns-then-contains
unfolding in_range between
returns-then-contains c =
    let s = c.args.self in
    elim c.if-tree_in_range.branch [
      | then-tree_in_range w ↦
          let tree : tree_in s.h s.z ≡ true = search rules in
          let root : root_in s.r ≡ true = search rules in
          let most : c.contains-then-contains.result ≡ most_in s.h s.t = search rules in
          rw (tree, root) most
      | else-tree_in_range w ↦ absurd (search rules)
    ]
