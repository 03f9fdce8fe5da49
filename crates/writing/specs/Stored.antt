-- What the stores of one path leave, and the words moved for it: document 01, "each bucket's part of the fetched words is
-- written where it stands; sibling words, and any words past the list, stay" and "4(Z+1) for each whole bucket twice".
-- Assumes nothing.
use Rattle.std.specs.Prelude.{ℕ, ◌*◌, ◌≤◌, List, ◌++◌, ◌≡◌, length, drop}
use Rattle.path.specs.declared.sizes.Sizes.{Sizes}
use Rattle.path.specs.Layout.{bucket_words}

-- the prepared words take the place of the first of the fetched ones
pub record Stored (s : Sizes) (from before after : List ℕ) (moved : ℕ) : Type 0 where
  pub words : after ≡ from ++ drop (length from) before
  pub counted : moved ≡ s.h * (2 * bucket_words s.z)

-- what is asked: Z in its range, the words of the path's buckets, and room for them
pub record StoreRoom (s : Sizes) (words from : List ℕ) : Type 0 where
  pub width : s.z ≤ 5
  pub buckets : length from ≡ s.h * bucket_words s.z
  pub room : length from ≤ length words
