-- A path's buckets with their least records, in words: document 01, "Least records of the evicted paths are then worked out
-- from the leaf up, the root last." What they are is `mended` of least/specs/Least.antt. Assumes nothing.
use Rattle.std.specs.Prelude.{ℕ, ◌+◌, ◌*◌, ◌-◌, ◌≤◌, ◌<◌, List, [], ◌∷◌, ◌++◌, ◌≡◌, length, get_or}
use Rattle.record.specs.declared.Leaf.{Leaf}
use Rattle.record.specs.declared.Record.{Record}
use Rattle.record.specs.declared.Rule.{Rule}
use Rattle.record.specs.Order.{smallest}
use Rattle.record.specs.Standing.{dummy}
use Rattle.path.specs.declared.sizes.Sizes.{Sizes}
use Rattle.path.specs.Cut.{Cut}
use Rattle.path.specs.Layout.{Contents, contents_words, bucket_words}
use Rattle.path.specs.Sizes.{leaves_of}
use Rattle.least.specs.Least.{slots_at, kids, mended}

-- the words of some buckets, one after the other: for each "first its least record, then its slots"
unfoldable pub path_words : List Contents → List ℕ
path_words [] = []
path_words (b ∷ bs) = contents_words b ++ path_words bs

-- the sibling's least record at level d, where level 1 comes first
abbrev pub beside_at : List Record → ℕ → Record
beside_at beside d = get_or beside (d - 1) dummy

-- the buckets of a path in words, and the smallest of the least records of the root's children
pub record Mended (rule : Rule) (s : Sizes) (q : Leaf) (way beside : List Record) (path : List ℕ) (least : Record) : Type 0 where
  pub words : path ≡ path_words (mended rule s.h q (slots_at s.r s.z way) (beside_at beside))
  pub children : least ≡ smallest rule (kids rule s.h q (slots_at s.r s.z way) (beside_at beside) s.h)

-- what is asked: sizes in their ranges, a leaf of the tree, and scratches as long as the path, the way and the siblings'
-- least records
pub record MendRoom (s : Sizes) (q : Leaf) (path w beside : List ℕ) : Type 0 where
  pub sizes : Cut s
  pub leaf : q.0 < leaves_of s.h
  pub buckets : length path ≡ s.h * bucket_words s.z
  pub slots : length w ≡ 4 * (s.r + s.z * s.h)
  pub siblings : 4 * s.h ≤ length beside
