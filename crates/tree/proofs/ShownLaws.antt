-- What fetched words show of a path is what a Tree holds there, for any words and any Tree that agree bucket by bucket.
-- Assumes nothing.
use Prim.Native.Nat.{ℕ, zero, suc, ◌+◌, ◌≤◌, ◌<◌}
use mathlib.Core.List.{List, [], ◌++◌, append_assoc, append-nil}
use mathlib.Core.Path.{◌≡◌, refl, sym, ap, ◌∙◌}
use native.Mathlib.Omega.{arith}
use lib.ListN.{take}
use Rattle.record.specs.declared.Leaf.{Leaf}
use Rattle.record.specs.declared.Record.{Record}
use Rattle.path.specs.Path.{path_bucket}
use Rattle.gather.specs.Shown.{whole_at, slots_shown, way_shown}
use Rattle.tree.specs.Tree.{Tree, joined, slots_on, way_of}

-- the slots of a way at levels 1 to d
unfoldable pub below_of : ℕ → Leaf → Tree → ℕ → List Record
below_of h q T zero = []
below_of h q T (suc d) = below_of h q T d ++ slots_on h q T (suc d)

-- the path's buckets stand in the words from the i-th on
abbrev pub Shows : ℕ → ℕ → Leaf → List ℕ → ℕ → Tree → Type 0
Shows h z q ws i T = (j : ℕ) → j < h → whole_at z ws (i + j) ≡ T (path_bucket h q (suc j))

module _ (h z : ℕ) (q : Leaf) (ws : List ℕ) (i : ℕ) (T : Tree) (shows : Shows h z q ws i T) where
  some_below : (k : ℕ) → k ≤ h → slots_shown z ws i k ≡ below_of h q T k
  unfolding slots_shown below_of
  some_below zero l = refl
  some_below (suc k) l = rw (some_below k (omega arith), shows k l)

  pub below-shown : slots_shown z ws i h ≡ below_of h q T h
  below-shown = some_below h (omega arith)

-- the root's slots, then the others
module _ (h : ℕ) (q : Leaf) (T : Tree) where
  below-joined : (k : ℕ) → slots_on h q T 0 ++ below_of h q T k ≡ joined (slots_on h q T) k
  unfolding below_of joined
  below-joined zero = append-nil (slots_on h q T 0)
  below-joined (suc k) = sym (append_assoc (slots_on h q T 0) _ _) ∙ ap (λ (l : List Record). l ++ slots_on h q T (suc k)) (below-joined k)

  pub way-below : way_of h q T ≡ slots_on h q T 0 ++ below_of h q T h
  way-below = sym (below-joined h)

pub way-shown : (h z r : ℕ) (q : Leaf) (slots : List Record) (ws : List ℕ) (i : ℕ) (T : Tree) → Shows h z q ws i T
    → slots_on h q T 0 ≡ take r slots → way_shown h z r slots ws i ≡ way_of h q T
unfolding way_shown
way-shown h z r q slots ws i T shows top = rw (way-below h q T, top, below-shown h z q ws i T shows)
