-- What card and fetched words show of an Insert's two paths: document 01, "Finish takes the fetched words in list order."
-- and "4 for each sibling once". Assumes nothing.
use Rattle.std.specs.Prelude.{ℕ, ◌+◌, ◌*◌, ◌-◌, ◌≤◌, List, ◌∷◌, ◌≡◌, length}
use Rattle.record.specs.declared.Record.{Record}
use Rattle.record.specs.Standing.{dummy}
use Rattle.record.specs.Words.{records}
use Rattle.path.specs.declared.sizes.Sizes.{Sizes}
use Rattle.path.specs.Cut.{Cut}
use Rattle.path.specs.Layout.{record_words}
use Rattle.gather.specs.Shown.{siblings_shown, way_shown}

-- one path's siblings. None is fetched at level 1, where each path's sibling is the other path; the dummy stands in its place.
abbrev pub below_first : Sizes → List ℕ → ℕ → List Record
below_first s ws skip = dummy ∷ siblings_shown s.z ws (2 * s.h) skip (s.h - 1)

pub record SiblingRoom (s : Sizes) (skip : ℕ) (ws sibs : List ℕ) : Type 0 where
  pub sizes : Cut s
  pub siblings : length sibs ≡ 4 * s.h
  pub fetched : 4 * (2 * s.h * (s.z + 1) + skip + (s.h - 1)) ≤ length ws

pub record SiblingsBelow (s : Sizes) (ws : List ℕ) (skip : ℕ) (sibs : List ℕ) (moved : ℕ) : Type 0 where
  pub siblings : records sibs ≡ below_first s ws skip
  pub counted : moved ≡ (s.h - 1) * record_words

pub record PairShown (s : Sizes) (root : List Record) (ws w one two all : List ℕ) (moved : ℕ) : Type 0 where
  pub way : records w ≡ way_shown s.h s.z s.r root ws 0
  pub first : records one ≡ below_first s ws 0
  pub second : records two ≡ below_first s ws (s.h - 1)
  pub slots : records all ≡ way_shown (2 * s.h) s.z s.r root ws 0
  pub counted : moved ≡ 2 * (s.h - 1) * record_words

pub record PairShownRoom (s : Sizes) (ws w one two all : List ℕ) : Type 0 where
  pub sizes : Cut s
  pub ways : length w ≡ 4 * (s.r + s.z * s.h)
  pub ones : length one ≡ 4 * s.h
  pub twos : length two ≡ 4 * s.h
  pub alls : length all ≡ 4 * (s.r + s.z * (2 * s.h))
  pub fetched : 4 * (2 * s.h * (s.z + 1) + 2 * (s.h - 1)) ≤ length ws
