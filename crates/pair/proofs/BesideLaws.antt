-- The work on an Insert's two paths looks at the first path's siblings from level 2 on. Assumes nothing.
use Prim.Native.Nat.{ℕ, ◌≤◌}
use mathlib.Core.Bool.{cond}
use mathlib.Core.List.{List}
use mathlib.Core.Path.{◌≡◌, ap, ◌∙◌}
use native.Mathlib.Omega.{arith}
use lib.Dec.{eqb}
use Rattle.record.specs.declared.Leaf.{Leaf}
use Rattle.record.specs.declared.Record.{Record}
use Rattle.record.specs.declared.Rule.{Rule}
use Rattle.path.specs.declared.sizes.Sizes.{Sizes}
use Rattle.least.specs.Least.{slots_at}
use Rattle.mend.specs.Mended.{path_words}
use Rattle.work.specs.PathWork.{path_buckets, least_after}
use Rattle.work.proofs.BesideLaws.{top-same, mended-same}
use Rattle.pair.specs.PairWork.{first_after, second_after, PairWorked}

-- An Insert's first path: its sibling at level 1 is the second path, and is not looked at.
pub pair_same :
    (rule : Rule) (s : Sizes) (first second : Leaf) (new : Record) (b b' beside₂ : ℕ → Record) (way slots₂ : List Record) (w path₁ path₂ : List ℕ) (x : Record)
    → 1 ≤ s.h → ((d : ℕ) → 2 ≤ d → d ≤ s.h → b d ≡ b' d)
    → PairWorked rule s first second new b beside₂ way slots₂ w path₁ path₂ x
    → PairWorked rule s first second new b' beside₂ way slots₂ w path₁ path₂ x
unfolding path_buckets least_after
pair_same rule s first second new b b' beside₂ way slots₂ w path₁ path₂ x high same p =
    let slots = slots_at s.r s.z (first_after s first new way) in
    let after₂ = second_after s first second new way slots₂ in
    let top = top-same rule s.h first slots b b' 2 same (omega arith) high in
    record {
      after = p.after;
      first_words = p.first_words ∙ ap path_words (mended-same rule s.h first slots b b' 2 same (omega arith));
      second_words = p.second_words ∙ ap (λ (t : Record). path_words (path_buckets rule s second (λ d. cond (eqb d 1) t (beside₂ d)) after₂)) top;
      least = p.least ∙ ap (λ (t : Record). least_after rule s second (λ d. cond (eqb d 1) t (beside₂ d)) after₂) top;
    }
