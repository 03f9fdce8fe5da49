-- The buckets of a path among all buckets: document 01, "Records and numbering". Assumes nothing.
use Rattle.std.specs.Prelude.{ℕ, ◌≤◌, ◌≡◌}
use Rattle.record.specs.declared.Leaf.{Leaf}
use Rattle.record.specs.declared.Bucket.{Bucket}
use Rattle.path.specs.Path.{path_bucket}

-- b is on the path of leaf q, at some level
pub record OnPath (h : ℕ) (q : Leaf) (b : Bucket) : Type 0 where
  pub level : ℕ
  pub within : level ≤ h
  pub is : b ≡ path_bucket h q level

abbrev pub OffPath : ℕ → Leaf → Bucket → Type 0
OffPath h q b = OnPath h q b → ⊥
