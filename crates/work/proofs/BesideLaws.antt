-- The work on a path looks at siblings at levels 1 to h alone; its buckets, at levels 2 to h. Assumes nothing.
use Prim.Native.Nat.{ℕ, zero, suc, ◌+◌, ◌-◌, ◌≤◌}
use mathlib.Core.List.{List}
use mathlib.Core.Path.{◌≡◌, refl, ap, ◌∙◌}
use native.Mathlib.Omega.{arith}
use Rattle.record.specs.declared.Leaf.{Leaf}
use Rattle.record.specs.declared.Record.{Record}
use Rattle.record.specs.declared.Rule.{Rule}
use Rattle.record.specs.Order.{least_of}
use Rattle.path.specs.declared.sizes.Sizes.{Sizes}
use Rattle.path.proofs.LevelLaws.{map_same}
use Rattle.path.specs.Layout.{Contents}
use Rattle.least.specs.Least.{slots_at, kids, mended_at, mended}
use Rattle.work.specs.PathWork.{evicted, path_buckets, least_after, PathWorked}

module _ (rule : Rule) (h : ℕ) (q : Leaf) (slots : ℕ → List Record) (b b' : ℕ → Record) (from : ℕ) (same : (d : ℕ) → from ≤ d → d ≤ h → b d ≡ b' d) where
  pub kids-same : (j : ℕ) → j + from ≤ suc h → kids rule h q slots b j ≡ kids rule h q slots b' j
  unfolding kids
  kids-same zero l = refl
  kids-same (suc j) l = rw (kids-same j (omega arith), same (h - j) (omega arith) (omega arith))

  module _ (below : from ≤ 2) where
    at_same : (d : ℕ) → 1 ≤ d → d ≤ h → mended_at rule h q slots b d ≡ mended_at rule h q slots b' d
    at_same d l m =
        let e = ap (least_of rule (slots d)) (kids-same (h - d) (omega arith)) in
        λ i. record { least = e i; slots = slots d }

    pub top-same : 1 ≤ h → (mended_at rule h q slots b 1).least ≡ (mended_at rule h q slots b' 1).least
    top-same l = ap (λ (k : Contents). k.least) (at_same 1 (omega arith) l)

    pub mended-same : mended rule h q slots b ≡ mended rule h q slots b'
    mended-same = map_same _ _ 1 h (λ d l m. at_same d l (omega arith))

-- so does what it leaves
pub worked_same :
    (rule : Rule) (s : Sizes) (q : Leaf) (b b' : ℕ → Record) (way : List Record) (w path : List ℕ) (x : Record)
    → ((d : ℕ) → 1 ≤ d → d ≤ s.h → b d ≡ b' d) → PathWorked rule s q b way w path x → PathWorked rule s q b' way w path x
unfolding path_buckets least_after
worked_same rule s q b b' way w path x same p =
    record {
      after = p.after;
      buckets = p.buckets ∙ rw (mended-same rule s.h q (slots_at s.r s.z (evicted s q way)) b b' 1 same (omega arith));
      least = p.least ∙ rw (kids-same rule s.h q (slots_at s.r s.z (evicted s q way)) b b' 1 same s.h (omega arith));
    }
