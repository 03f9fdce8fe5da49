-- A small run on the Tree worked out: document 01's P10 and P11, on the Tree of a fresh card and a filled tree of h = 2,
-- Z = 1, R = 1. A wrong order of the paths, a way laid back elsewhere or a record left behind changes one of these.
-- Assumes nothing.
use Prim.Native.Nat.{ℕ}
use mathlib.Core.List.{[], ◌∷◌}
use mathlib.Core.Path.{◌≡◌, refl}
use Rattle.record.specs.declared.Leaf.{Leaf}
use Rattle.record.specs.declared.Record.{Record}
use Rattle.record.specs.declared.Rule.{Rule}
use Rattle.record.specs.Standing.{rule_for, dummy, same, is_dummy}
use Rattle.record.specs.Order.{before, smaller_by, smallest_by}
use Rattle.record.specs.Words.{record4, records, words_of}
use Rattle.path.specs.declared.sizes.Sizes.{Sizes}
use Rattle.path.specs.Sizes.{sizes_of}
use Rattle.path.specs.Path.{bucket, root, path_bucket, holds, sibling_of, up_from, path}
use Rattle.path.specs.Layout.{fresh_tree}
use Rattle.way.specs.Evict.{seek, fits, moved_to, pull, pulls, evict_up, evict}
use Rattle.least.specs.Least.{slots_at, in_order, kids}
use Rattle.clearing.specs.Removal.{named, removed}
use Rattle.work.specs.PathWork.{path_buckets, least_after}
use Rattle.pair.specs.PairWork.{seated}
use Rattle.tree.specs.Tree.{Tree, joined, put, put_all, tree_of}
use Rattle.tree.specs.Work.{worked, taken, inserted}

abbrev sizes : Sizes
sizes = sizes_of 2 1 1 16

-- 4 leaves, 2 requests finished
abbrev rule : Rule
rule = rule_for 4 2

abbrev leaf : ℕ → Leaf
leaf n = record { 0 = n }

abbrev fresh : Tree
fresh = tree_of 1 (dummy ∷ []) dummy (fresh_tree 2 1)

-- "insert 7 70 0 1 2"
abbrev seven : Record
seven = record4 7 70 0 0

abbrev one : Tree
one = inserted rule sizes (leaf 1) (leaf 2) seven fresh

-- "insert 5 50 0 1 2"
abbrev two : Tree
two = inserted rule sizes (leaf 1) (leaf 2) (record4 5 50 0 1) one

-- "extract"
abbrev three : Tree
three = taken rule sizes (leaf 0) (named (leaf 0) (record { 0 = 1 })) two

-- "P10: after line 2 the record stands in bucket 2."; then the event with key 5 is the least of all; and P11: the extract of
-- line 6 "moves key 7 to bucket 4"
sample :
    ((one (bucket 2)).slots ≡ seven ∷ [])
    × ((two root).least ≡ record4 5 50 0 1)
    × ((three (bucket 4)).slots ≡ seven ∷ [])
unfolding same is_dummy before smaller_by smallest_by records words_of path_bucket holds sibling_of up_from path seek fits moved_to pull
    pulls evict_up evict slots_at in_order kids named removed path_buckets least_after seated joined put put_all worked
sample = (refl, refl, refl)
