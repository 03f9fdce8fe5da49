-- The work on one path, step by step: evicted, mended, and the root last. Assumes nothing.
use Prim.Native.Nat.{ℕ}
use mathlib.Core.Bool.{Bool}
use mathlib.Core.List.{List, ◌++◌}
use mathlib.Core.Path.{◌≡◌, ap, ◌∙◌}
use lib.ListN.{take, drop}
use Rattle.record.specs.declared.Leaf.{Leaf}
use Rattle.record.specs.declared.Record.{Record}
use Rattle.record.specs.declared.Rule.{Rule}
use Rattle.record.specs.Words.{records}
use Rattle.path.specs.declared.sizes.Sizes.{Sizes}
use Rattle.way.specs.Evict.{evict}
use Rattle.least.specs.Least.{over}
use Rattle.least.proofs.LeastLaws.{smallest-over}
use Rattle.mend.specs.Mended.{beside_at, Mended}
use Rattle.clearing.specs.Removal.{Cleared}
use Rattle.clearing.proofs.RemovalLaws.{cleared-records}
use Rattle.work.specs.declared.removal.Removed.{Removed}
use Rattle.work.specs.PathWork.{path_buckets, least_after, PathWorked}
use Rattle.work.specs.RemovalWork.{PathRemoved}

pub path-worked :
    (rule : Rule) (s : Sizes) (q : Leaf) (B way : List Record) (w path : List ℕ) (kids x : Record)
    → records w ≡ evict s.h s.z s.r q way → Mended rule s q (records w) B path kids
    → x ≡ over rule (take s.r (records w)) kids → PathWorked rule s q (beside_at B) way w path x
unfolding path_buckets least_after
path-worked rule s q B way w path kids x e m l =
    record {
      after = e;
      buckets = rw (← e) m.words;
      least = rw (← e, smallest-over) (l ∙ ap (over rule (take s.r (records w))) m.children);
    }

-- ---- a removal: cleared, worked on, and the root saved
pub path-removed :
    (rule : Rule) (s : Sizes) (q : Leaf) (f : Record → Bool) (sibs slots : List Record) (w₀ w₁ w₂ path : List ℕ) (out : Removed)
    → Cleared f w₀ w₁ out.found → PathWorked rule s q (beside_at sibs) (records w₁) w₂ path out.least
    → out.root ≡ take s.r (records w₂) ++ drop s.r slots
    → PathRemoved rule s q f sibs (records w₀) slots path out
path-removed rule s q f sibs slots w₀ w₁ w₂ path out c p e =
    let p' = rw (cleared-records f w₀ w₁ out.found c) at p in
    record {
      finds = c.answered;
      root = e ∙ ap (λ (l : List Record). take s.r l ++ drop s.r slots) p'.after;
      least = p'.least;
      buckets = p'.buckets;
    }
