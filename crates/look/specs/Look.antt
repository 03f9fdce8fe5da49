-- The look at what a finish fetched: what it leaves in the scratches of the work, and what it tells.
-- Assumes nothing.
use Rattle.std.specs.Prelude.{ℕ, ◌+◌, ◌*◌, ◌-◌, ◌≤◌, ◌<◌, cond, List, Ok, ◌≡◌, length}
use Rattle.record.specs.declared.Leaf.{Leaf}
use Rattle.record.specs.declared.Record.{Record}
use Rattle.record.specs.Words.{records}
use Rattle.path.specs.declared.sizes.Sizes.{Sizes}
use Rattle.path.specs.Sizes.{leaves_of}
use Rattle.path.specs.Layout.{record_words}
use Rattle.parts.specs.declared.Parts.{Parts}
use Rattle.shown.specs.PairShown.{below_first}
use Rattle.settle.specs.Left.{path_way, path_siblings, path_bad, pair_bad}
use Rattle.settle.specs.Settled.{unsettled}
use Rattle.path.specs.Cut.{Cut}
use Rattle.look.specs.declared.Looked.{Looked}

-- ---- ExtractMin and Delete. What is asked: sizes and leaf in range, words that are not too short, and the scratches of the way
-- and of its siblings
pub record PathLookRoom (s : Sizes) (q : Leaf) (ws w sibs : List ℕ) : Type 0 where
  pub sizes : Cut s
  pub leaf : q.0 < leaves_of s.h
  pub fetched : 4 * (s.h * (s.z + 1) + s.h) ≤ length ws
  pub slots : length w ≡ 4 * (s.r + s.z * s.h)
  pub siblings : length sibs ≡ 4 * s.h

-- the way and its siblings are in the scratches; the words moved for the siblings, Damaged or not, and the verdict
pub record PathLooks
    (p : Parts) (root : List Record) (ws : List ℕ) (q : Leaf) (w sibs : List ℕ) (out : Looked) : Type 0 where
  pub way : records w ≡ path_way p.sizes root ws
  pub siblings : records sibs ≡ path_siblings p.sizes ws
  pub counted : out.moved ≡ p.sizes.h * record_words
  pub verdict : out.fit ≡ cond (path_bad p root ws q) unsettled (Ok tt)

-- ---- Insert. What is asked, with the scratches of the first path's way and of its siblings
pub record PairLookRoom (s : Sizes) (first second : Leaf) (ws w beside : List ℕ) : Type 0 where
  pub sizes : Cut s
  pub lower : first.0 < leaves_of s.h
  pub upper : second.0 < leaves_of s.h
  pub fetched : 4 * (2 * s.h * (s.z + 1) + 2 * (s.h - 1)) ≤ length ws
  pub slots : length w ≡ 4 * (s.r + s.z * s.h)
  pub siblings : length beside ≡ 4 * s.h

-- the first path's way and its siblings are in the scratches; the words moved for both paths' siblings, Damaged or not, and the
-- verdict
pub record PairLooks
    (p : Parts) (root : List Record) (ws : List ℕ) (first second : Leaf) (w beside : List ℕ) (out : Looked) : Type 0 where
  pub way : records w ≡ path_way p.sizes root ws
  pub siblings : records beside ≡ below_first p.sizes ws 0
  pub counted : out.moved ≡ 2 * (p.sizes.h - 1) * record_words
  pub verdict : out.fit ≡ cond (pair_bad p root ws first second) unsettled (Ok tt)
