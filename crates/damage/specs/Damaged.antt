-- Damaged put together, for one path and for an Insert's two: document 01, "Refusal numbers", the first three clauses in
-- the paper's order. Clause 2, "two slots that are not dummies, root included, share a stamp", is `stamp_twice` of
-- record/specs/Many.antt; the fourth, the card that would come out, is the card's. Assumes nothing.
use Rattle.std.specs.Prelude.{ℕ, Bool, not, ◌&&◌, ◌||◌, List, [], ◌∷◌, take}
use Rattle.record.specs.declared.Record.{Record}
use Rattle.record.specs.declared.Rule.{Rule}
use Rattle.record.specs.Standing.{same}
use Rattle.record.specs.Many.{stamp_twice}
use Rattle.record.specs.Order.{least_of}
use Rattle.path.specs.Path.{path_bucket}
use Rattle.least.specs.Least.{in_order}
use Rattle.sound.specs.Fetched.{Fetched}
use Rattle.sound.specs.Sound.{all_sound}
use Rattle.truth.specs.Leasts.{all_true}

-- clause 3 at the root: the least record of its slots and of its children's least records
abbrev pub root_true : Rule → Record → List Record → List Record → Bool
root_true rule least slots kids = same least (least_of rule slots kids)

-- `least` is the root's least record; the first r of the slots are the root's
module _ (h r : ℕ) (rule : Rule) (least : Record) where
  -- ExtractMin and Delete: the slots are those of the way
  unfoldable pub path_damaged : Fetched → List Record → Bool
  path_damaged p slots =
      not (all_sound h rule p 1)
      || (stamp_twice slots
      || not (all_true h rule p && root_true rule least (take r slots) (in_order (path_bucket h p.leaf 1) (p.shown 1).least (p.beside 1))))

  -- Insert: the slots are the root's, the first path's and the second's. The first leaf is in the lower half, so the
  -- root's lower child is on its path, and the other on the second's.
  unfoldable pub pair_damaged : Fetched → Fetched → List Record → Bool
  pair_damaged p q slots =
      not (all_sound h rule p 2 && all_sound h rule q 2)
      || (stamp_twice slots
      || not ((all_true h rule p && all_true h rule q) && root_true rule least (take r slots) ((p.shown 1).least ∷ (q.shown 1).least ∷ [])))
