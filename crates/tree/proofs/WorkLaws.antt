-- A path worked on: what the Tree holds afterwards in each bucket of the path, and that it holds all else as before.
-- Assumes nothing.
use Prim.Native.Nat.{ℕ, zero, suc, ◌-◌, ◌≤◌, ◌<◌}
use mathlib.Core.List.{List}
use mathlib.Core.Path.{◌≡◌}
use native.Mathlib.Omega.{arith}
use Rattle.record.specs.declared.Leaf.{Leaf}
use Rattle.record.specs.declared.Record.{Record}
use Rattle.record.specs.declared.Rule.{Rule}
use Rattle.record.specs.Order.{least_of}
use Rattle.path.specs.declared.sizes.Sizes.{Sizes}
use Rattle.path.specs.Sizes.{leaves_of}
use Rattle.path.specs.Path.{path_bucket}
use Rattle.path.specs.Layout.{Contents}
use Rattle.path.proofs.PathLaws.{path-root}
use Rattle.least.specs.Least.{slots_at, kids}
use Rattle.work.specs.PathWork.{evicted, path_buckets, least_after}
use Rattle.tree.specs.Tree.{Tree, beside_of, contents}
use Rattle.tree.specs.Work.{worked}
use Rattle.tree.proofs.PathLaws.{Lays, laid_root, laid_on, laid-off}
use Rattle.tree.proofs.JoinLaws.{level_of}

-- the path's buckets, the root's at level 0, once the way has become `after`
abbrev pub bucket_after : Rule → Sizes → Leaf → (ℕ → Record) → List Record → ℕ → Contents
bucket_after rule s q beside after d =
    contents (least_of rule (level_of s.r s.z after d) (kids rule s.h q (slots_at s.r s.z after) beside (s.h - d)))
    (level_of s.r s.z after d)

module _ (rule : Rule) (s : Sizes) (q : Leaf) (inside : q.0 < leaves_of s.h) (w : List Record) (T : Tree) where
  pub worked-lays :
      Lays s.h q (bucket_after rule s q (beside_of s.h q T) (evicted s q w)) T (worked rule s q w T)
  unfolding worked path_buckets least_after level_of
  worked-lays = record { on = on; off = laid-off s.h q inside _ _ T }
    where
      on : (d : ℕ) → d ≤ s.h
          → worked rule s q w T (path_bucket s.h q d) ≡ bucket_after rule s q (beside_of s.h q T) (evicted s q w) d
      on zero l = let e : s.h - 0 ≡ s.h = omega arith in rw (path-root s.h q inside, e) (laid_root s.h q inside _ _ T)
      on (suc d) l = laid_on s.h q inside _ _ T (suc d) (omega arith) l
