-- What is asked of the sizes, the leaf and the part of the words that a path's checks are lent. Assumes nothing.
use Rattle.std.specs.Prelude.{ℕ, ◌+◌, ◌*◌, ◌≤◌, ◌<◌, List, length}
use Rattle.record.specs.declared.Leaf.{Leaf}
use Rattle.path.specs.declared.sizes.Sizes.{Sizes}
use Rattle.path.specs.Sizes.{leaves_of}

-- sizes and leaf are in range, and the path's h buckets are there
pub record Room (s : Sizes) (leaf : Leaf) (path : List ℕ) : Type 0 where
  pub height : (1 ≤ s.h) × (s.h ≤ 16)
  pub slots : s.z ≤ 5
  pub inside : leaf.0 < leaves_of s.h
  pub buckets : 4 * (s.h * (s.z + 1)) ≤ length path
