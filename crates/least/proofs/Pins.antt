-- The least records of a small way worked out: what the definitions come to. A child or a sibling left out, or a tie that takes
-- the other child, changes one of these. Assumes nothing.
use Prim.Native.Nat.{ℕ, zero, suc}
use mathlib.Core.List.{[], ◌∷◌}
use mathlib.Core.Path.{◌≡◌, refl}
use Rattle.record.specs.declared.Leaf.{Leaf}
use Rattle.record.specs.declared.Record.{Record}
use Rattle.record.specs.declared.Rule.{Rule}
use Rattle.record.specs.Order.{before, smaller_by, smallest, smallest_by}
use Rattle.record.specs.Standing.{rule_for, dummy}
use Rattle.record.specs.Words.{record4}
use Rattle.path.specs.Path.{bucket, path_bucket, up_from}
use Rattle.least.specs.Least.{slots_at, in_order, kids, mended}

-- 4 leaves, 2 requests finished
abbrev rule : Rule
rule = rule_for 4 2

-- leaf 0 of a tree of height 2, with one slot in the root and one in each bucket
leaf : Leaf
leaf = record { 0 = 0 }

-- key 7 with label 0, and key 5 with label 1
a : Record
a = record4 7 70 0 0

c : Record
c = record4 5 50 1 1

-- the least records of that leaf's path, the sibling's being `c` at level 1 and the dummy at level 2; the slots hold `a` in the
-- leaf's bucket alone
beside : ℕ → Record
beside zero = dummy
beside (suc zero) = c
beside (suc (suc d)) = dummy

least :
    mended rule 2 leaf (slots_at 1 1 (dummy ∷ dummy ∷ a ∷ [])) beside
    ≡ record { least = a; slots = dummy ∷ [] } ∷ record { least = a; slots = a ∷ [] } ∷ []
unfolding leaf a c beside slots_at kids in_order smallest_by smaller_by before path_bucket up_from
least = refl

roots-children : kids rule 2 leaf (slots_at 1 1 (dummy ∷ dummy ∷ a ∷ [])) beside 2 ≡ a ∷ c ∷ []
unfolding leaf a c beside slots_at kids in_order smallest_by smaller_by before path_bucket
roots-children = refl

-- a tie takes the lower child: of buckets 2 and 3, whose least records differ in value alone, the one of bucket 2
tie : smallest rule (in_order (bucket 3) (record4 7 70 0 0) (record4 7 74 0 0)) ≡ record4 7 74 0 0
unfolding in_order smallest_by smaller_by before
tie = refl
