-- The work on one path: document 01, "Then the path is evicted." and "Least records of the evicted paths are then worked out
-- from the leaf up, the root last." It is defined on a way and on the least records beside it, so that a whole tree and
-- fetched words are worked on by one rule. Assumes nothing.
use Rattle.std.specs.Prelude.{ℕ, List, ◌≡◌}
use Rattle.record.specs.declared.Leaf.{Leaf}
use Rattle.record.specs.declared.Record.{Record}
use Rattle.record.specs.declared.Rule.{Rule}
use Rattle.record.specs.Order.{least_of}
use Rattle.record.specs.Words.{records}
use Rattle.path.specs.declared.sizes.Sizes.{Sizes}
use Rattle.path.specs.Layout.{Contents}
use Rattle.way.specs.Evict.{evict}
use Rattle.least.specs.Least.{slots_at, root_slots, kids, mended}
use Rattle.mend.specs.Mended.{path_words}

-- "Then the path is evicted."
abbrev pub evicted : Sizes → Leaf → List Record → List Record
evicted s q way = evict s.h s.z s.r q way

-- The least records of a path, of its way once it is evicted: `beside d` is the least record of the sibling at level d.
module _ (rule : Rule) (s : Sizes) (q : Leaf) (beside : ℕ → Record) (after : List Record) where
  -- "worked out from the leaf up": the path's buckets at levels 1 to h
  unfoldable pub path_buckets : List Contents
  path_buckets = mended rule s.h q (slots_at s.r s.z after) beside

  -- "the root last"
  unfoldable pub least_after : Record
  least_after = least_of rule (root_slots s.r after) (kids rule s.h q (slots_at s.r s.z after) beside s.h)

-- what the work on one path leaves in the scratches of its way and of its buckets, and its answer
pub record PathWorked
    (rule : Rule) (s : Sizes) (q : Leaf) (beside : ℕ → Record) (way : List Record) (w path : List ℕ) (x : Record) : Type 0 where
  pub after : records w ≡ evicted s q way
  pub buckets : path ≡ path_words (path_buckets rule s q beside (evicted s q way))
  pub least : x ≡ least_after rule s q beside (evicted s q way)
