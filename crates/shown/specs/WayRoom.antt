-- Room for the root's slots and those of n whole buckets: a scratch just as long, and the fetched words. Assumes nothing.
use Rattle.std.specs.Prelude.{ℕ, ◌+◌, ◌*◌, ◌≤◌, List, ◌≡◌, length}
use Rattle.path.specs.declared.sizes.Sizes.{Sizes}
use Rattle.path.specs.Cut.{Cut}

pub record WayRoom (s : Sizes) (n : ℕ) (ws w : List ℕ) : Type 0 where
  pub sizes : Cut s
  pub slots : length w ≡ 4 * (s.r + s.z * n)
  pub fetched : 4 * (n * (s.z + 1)) ≤ length ws
