-- The bucket list of a job: document 01, "A request, step by step". Assumes nothing.
use Rattle.std.specs.Prelude.{ℕ, ◌≤◌, ◌<◌, length}
use Rattle.path.specs.declared.sizes.Sizes.{Sizes}
use Rattle.path.specs.Sizes.{leaves_of}
use Rattle.lists.specs.BucketList.{BucketList, pair_list, path_list, numbers, counts, fetched_for}
use Rattle.request.specs.declared.job.Job.{Job}
use Rattle.request.specs.declared.job.Job.TheVariants.{Path, Pair}

-- one path's list, or that of two
abbrev pub list_for : ℕ → Job → BucketList
list_for h (Path leaf label stamp) = path_list h leaf
list_for h (Pair first second new) = pair_list h first second

-- the places that it takes, and the words that are fetched for it
abbrev pub places_asked : ℕ → Job → ℕ
places_asked h j = length (numbers (list_for h j))

abbrev pub words_asked : Sizes → Job → ℕ
words_asked s j = fetched_for s.z (counts (list_for s.h j))

-- what a list is asked for: a height, leaves of the tree, and room
abbrev pub LeavesWithin : ℕ → Job → Type 0
LeavesWithin n (Path leaf label stamp) = leaf.0 < n
LeavesWithin n (Pair first second new) = (first.0 < n) × (second.0 < n)

pub record Listable (s : Sizes) (j : Job) (room : ℕ) : Type 0 where
  pub height : (1 ≤ s.h) × (s.h ≤ 16)
  pub leaves : LeavesWithin (leaves_of s.h) j
  pub place : places_asked s.h j ≤ room
