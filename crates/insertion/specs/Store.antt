-- Room for the stores of an Insert's two paths: the second path's buckets stand behind the first's. Assumes nothing.
use Rattle.std.specs.Prelude.{ℕ, ◌+◌, ◌*◌, ◌≤◌, List, ◌≡◌, length}
use Rattle.path.specs.declared.sizes.Sizes.{Sizes}
use Rattle.path.specs.Layout.{bucket_words}
use Rattle.path.specs.Cut.{Cut}

-- what is asked: sizes in range, the words of both paths' buckets, and room for them
pub record PairStoreRoom (s : Sizes) (words one two : List ℕ) : Type 0 where
  pub sizes : Cut s
  pub lower : length one ≡ s.h * bucket_words s.z
  pub upper : length two ≡ s.h * bucket_words s.z
  pub room : length one + length two ≤ length words
