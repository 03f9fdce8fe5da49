-- The work of a finish on a Tree: document 01, "A request, step by step". A way is taken out, worked on by the rules of
-- work/specs, and laid back. Assumes nothing.
use Rattle.std.specs.Prelude.{Bool, List}
use Rattle.record.specs.declared.Leaf.{Leaf}
use Rattle.record.specs.declared.Record.{Record}
use Rattle.record.specs.declared.Rule.{Rule}
use Rattle.path.specs.declared.sizes.Sizes.{Sizes}
use Rattle.least.specs.Least.{root_slots}
use Rattle.clearing.specs.Removal.{removed}
use Rattle.work.specs.PathWork.{evicted, path_buckets, least_after}
use Rattle.pair.specs.PairWork.{seated}
use Rattle.tree.specs.Tree.{Tree, way_of, beside_of, contents, laid_back}

module _ (rule : Rule) (s : Sizes) (q : Leaf) where
  -- a path worked on, when its way has become w: evicted, least records worked out, "the root last"
  unfoldable pub worked : List Record → Tree → Tree
  worked w T =
      laid_back s.h q (path_buckets rule s q (beside_of s.h q T) (evicted s q w))
      (contents (least_after rule s q (beside_of s.h q T) (evicted s q w)) (root_slots s.r (evicted s q w))) T

  -- ExtractMin and Delete: the record that passes becomes the dummy, or none does
  abbrev pub taken : (Record → Bool) → Tree → Tree
  taken f T = worked (removed f (way_of s.h q T)) T

-- Insert: the record into the root, "then evicts the first path, then the second"
abbrev pub after_first : Rule → Sizes → Leaf → Record → Tree → Tree
after_first rule s first new T = worked rule s first (seated s.r new (way_of s.h first T)) T

abbrev pub inserted : Rule → Sizes → Leaf → Leaf → Record → Tree → Tree
inserted rule s first second new T =
    worked rule s second (way_of s.h second (after_first rule s first new T)) (after_first rule s first new T)
