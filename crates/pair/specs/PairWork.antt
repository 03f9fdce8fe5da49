-- The work of Insert on its two paths: document 01, "Insert puts the record, with stamp t, into the lowest dummy slot of the
-- root, then evicts the first path, then the second." Assumes nothing.
use Rattle.std.specs.Prelude.{ℕ, ◌+◌, ◌*◌, ◌-◌, ◌≤◌, cond, List, ◌++◌, ◌≡◌, ltb, eqb, length, set}
use Rattle.record.specs.declared.Leaf.{Leaf}
use Rattle.record.specs.declared.Record.{Record}
use Rattle.record.specs.declared.Rule.{Rule}
use Rattle.record.specs.Standing.{is_dummy}
use Rattle.record.specs.Words.{records}
use Rattle.path.specs.declared.sizes.Sizes.{Sizes}
use Rattle.way.specs.Evict.{seek}
use Rattle.least.specs.Least.{slots_at, root_slots, mended_at}
use Rattle.gather.specs.Shown.{sibling_at}
use Rattle.mend.specs.Mended.{path_words, MendRoom}
use Rattle.work.specs.PathWork.{evicted, path_buckets, least_after}

-- "puts the record .. into the lowest dummy slot of the root": the first r places of its way. A root without one is
-- refused at begin (10).
unfoldable pub seated : ℕ → Record → List Record → List Record
seated r new way = cond (ltb (seek is_dummy r way) r) (set way (seek is_dummy r way) new) way

-- "then evicts the first path": the way with the record in its root
abbrev pub first_after : Sizes → Leaf → Record → List Record → List Record
first_after s first new way = evicted s first (seated s.r new way)

-- "then the second": what the first left in the root, then the second path's slots
abbrev pub second_after : Sizes → Leaf → Leaf → Record → List Record → List Record → List Record
second_after s first second new way slots₂ = evicted s second (root_slots s.r (first_after s first new way) ++ slots₂)

-- the least records beside the second path: its sibling at level 1 is the first path's bucket, `after` its evicted way
module _ (rule : Rule) (s : Sizes) (first : Leaf) (beside₁ : ℕ → Record) (after : List Record) where
  abbrev pub top_first : Record
  top_first = (mended_at rule s.h first (slots_at s.r s.z after) beside₁ 1).least

  abbrev pub second_beside : (ℕ → Record) → ℕ → Record
  second_beside beside₂ d = cond (eqb d 1) top_first (beside₂ d)

-- the siblings of an Insert's first path from level 2 on, behind both paths' whole buckets; and of its second, behind these
abbrev pub first_siblings : Sizes → List ℕ → ℕ → Record
first_siblings s ws d = sibling_at s.z ws (2 * s.h) (d - 2)

abbrev pub second_siblings : Sizes → List ℕ → ℕ → Record
second_siblings s ws d = sibling_at s.z ws (2 * s.h) (s.h - 1 + (d - 2))

-- what the work on an Insert's two paths, evicted one after the other, leaves in the scratches of the way and of each path's
-- buckets, with their least records; and its answer, the root's
pub record PairWorked
    (rule : Rule) (s : Sizes) (first second : Leaf) (new : Record) (beside₁ beside₂ : ℕ → Record) (way slots₂ : List Record)
    (w path₁ path₂ : List ℕ) (x : Record) : Type 0 where
  pub after : records w ≡ second_after s first second new way slots₂
  pub first_words : path₁ ≡ path_words (path_buckets rule s first beside₁ (first_after s first new way))
  pub second_words :
      path₂
      ≡ path_words (path_buckets rule s second (second_beside rule s first beside₁ (first_after s first new way) beside₂)
      (second_after s first second new way slots₂))
  pub least :
      x
      ≡ least_after rule s second (second_beside rule s first beside₁ (first_after s first new way) beside₂)
      (second_after s first second new way slots₂)

-- what is asked: the room of one path for each, and the fetched words of both
pub record PairRoom (s : Sizes) (first second : Leaf) (path₁ path₂ w beside words : List ℕ) : Type 0 where
  pub one : MendRoom s first path₁ w beside
  pub two : MendRoom s second path₂ w beside
  pub fetched : 4 * (2 * s.h * (s.z + 1) + 2 * (s.h - 1)) ≤ length words
