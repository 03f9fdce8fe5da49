-- An Insert's two paths: they part at the root's children, and below the root neither meets the other nor its siblings.
-- Assumes nothing.
use Prim.Native.Nat.{ℕ, zero, suc, ◌+◌, ◌-◌, ◌/◌, ◌^◌, ◌≤◌, ◌<◌}
use mathlib.Core.Path.{◌≡◌, sym, ap, ◌∙◌}
use native.Mathlib.Nat.{two-pow-succ, le-div_iff_mul-le}
use native.Mathlib.Omega.{arith}
use lib.Pow.{shr_lt, pow_pos}
use Rattle.record.specs.declared.Leaf.{Leaf}
use Rattle.path.specs.Sizes.{leaves_of}
use Rattle.path.specs.Path.{bucket, number, path_bucket, sibling_of}
use Rattle.path.proofs.PathLaws.{path-root, path-split, path_parent, pair-apart, sibling-parent, sibling-in-tree}
use Rattle.tree.specs.Path.{OffPath}
use Rattle.tree.proofs.PathLaws.{not_root, child-off}

-- "the first below N/2, the second from N/2 to N-1"
pub record Halves (h : ℕ) (first second : Leaf) : Type 0 where
  pub high : 1 ≤ h
  pub low : first.0 < leaves_of h / 2
  pub above : leaves_of h / 2 ≤ second.0
  pub most : second.0 < leaves_of h

module _ (h : ℕ) (first second : Leaf) (p : Halves h first second) where
  pub first-inside : first.0 < leaves_of h
  first-inside = omega (arith, p.low)

  pub first-child : path_bucket h first 1 ≡ bucket 2
  first-child =
      let e : 0 + (h - 1) ≡ h - 1 = omega arith in
      let f : suc (h - 1) ≡ h = omega (arith, p.high) in
      let half = rw f at (two-pow-succ (h - 1)) in
      let z : first.0 / 2 ^ (h - 1) < 2 ^ 0 = shr_lt 0 (h - 1) (rw e (omega (arith, p.low))) in
      ap bucket (omega (arith, path-split h first 1 p.high))

  pub second-child : path_bucket h second 1 ≡ bucket 3
  second-child =
      let e : 1 + (h - 1) ≡ h = omega (arith, p.high) in
      let f : suc (h - 1) ≡ h = omega (arith, p.high) in
      let half = rw f at (two-pow-succ (h - 1)) in
      let z : second.0 / 2 ^ (h - 1) < 2 ^ 1 = shr_lt 1 (h - 1) (rw e p.most) in
      let y : 1 ≤ second.0 / 2 ^ (h - 1) = (le-div_iff_mul-le (pow_pos (h - 1))).1 (omega (arith, p.above)) in
      ap bucket (omega (arith, path-split h second 1 p.high))

  -- each path's sibling at level 1 is the other path's bucket
  pub second-sibling : sibling_of (path_bucket h second 1) ≡ path_bucket h first 1
  unfolding sibling_of
  second-sibling = ap sibling_of second-child ∙ sym first-child

  pub second-off : (d : ℕ) → 1 ≤ d → d ≤ h → OffPath h first (path_bucket h second d)
  second-off d l m o = go o.level o.within o.is
    where
      go : (e : ℕ) → e ≤ h → path_bucket h second d ≡ path_bucket h first e → ⊥
      go zero n i = not_root h second p.most d l m (i ∙ path-root h first first-inside)
      go (suc e) n i = pair-apart h first second p.low p.above p.most (suc e) d (omega arith) n l m (sym (ap number i))

  pub first_off : (d : ℕ) → 1 ≤ d → d ≤ h → OffPath h second (path_bucket h first d)
  first_off d l m o = go o.level o.within o.is
    where
      go : (e : ℕ) → e ≤ h → path_bucket h first d ≡ path_bucket h second e → ⊥
      go zero n i = not_root h first first-inside d l m (i ∙ path-root h second p.most)
      go (suc e) n i = pair-apart h first second p.low p.above p.most d (suc e) l m (omega arith) n (ap number i)

  -- below level 1 a sibling of the second path is under the second path's bucket
  pub second-sibling-off : (d : ℕ) → 2 ≤ d → d ≤ h → OffPath h first (sibling_of (path_bucket h second d))
  second-sibling-off zero l m = absurd (omega arith)
  second-sibling-off (suc d) l m =
      child-off h first first-inside (path_bucket h second d) (sibling_of (path_bucket h second (suc d)))
      (sibling-in-tree h second p.most (suc d) (omega arith) m).0
      (sibling-parent (path_bucket h second (suc d)) ∙ sym (path_parent h second d m)) (second-off d (omega arith) (omega arith))
