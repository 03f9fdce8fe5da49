-- Which buckets a path has, and what stands where once buckets are replaced. Assumes nothing.
use Prim.Native.Nat.{ℕ, zero, suc, ◌+◌, ◌-◌, ◌/◌, ◌≤◌, ◌<◌}
use mathlib.Core.Bool.{true, false}
use mathlib.Core.List.{map}
use mathlib.Core.Logic.{⊎_elim, ◌⊎◌, inl, inr}
use mathlib.Core.Path.{◌≡◌, refl, sym, ap, ◌∙◌}
use native.Mathlib.Decide.{dec_le}
use native.Mathlib.Omega.{arith}
use lib.Dec.{eqb}
use borrow.Author.Tests.{eqb-true, eqb-false, eq-eqb, ne_eqb}
use Rattle.record.specs.declared.Leaf.{Leaf}
use Rattle.record.specs.declared.Bucket.{Bucket}
use Rattle.path.specs.Sizes.{leaves_of}
use Rattle.path.specs.Path.{bucket, number, root, path_bucket, up_from, path}
use Rattle.path.specs.Layout.{Contents}
use Rattle.path.proofs.PathLaws.{path-root, path_parent, path-in-tree, levels-apart}
use Rattle.tree.specs.Tree.{Tree, put, put_all, laid_back}
use Rattle.tree.specs.Path.{OnPath, OffPath}

-- ---- a bucket, decided
pub same_or : (a b : Bucket) → (a ≡ b) ⊎ (a ≡ b → ⊥)
same_or a b = (elim (eqb (number a) (number b)) as (λ t. eqb (number a) (number b) ≡ t → (a ≡ b) ⊎ (a ≡ b → ⊥)) [
  | true ↦ λ e. inl (ap bucket (eqb-true _ _ e))
  | false ↦ λ e. inr (λ i. eqb-false (number a) (number b) e (ap number i))
]) refl

-- ---- on a path or off it
upto : (h : ℕ) (q : Leaf) (b : Bucket) (k : ℕ) → ((d : ℕ) × (d ≤ k) × (b ≡ path_bucket h q d)) ⊎ ((d : ℕ) → d ≤ k → b ≡ path_bucket h q d → ⊥)
upto h q b zero =
    ⊎_elim (λ e. inl (0, omega arith, e)) (λ n. inr (λ d l e. let z : d ≡ 0 = omega arith in n (rw z at e))) (same_or b (path_bucket h q 0))
upto h q b (suc k) =
    ⊎_elim (λ r. inl (r.0, omega (arith, r.1), r.2))
    (λ n. ⊎_elim (λ e. inl (suc k, omega arith, e))
    (λ m. inr (λ d l e. elim (dec_le d k) [
      | yes i ↦ n d i e
      | no i ↦ let z : d ≡ suc k = omega arith in m (rw z at e)
    ]))
    (same_or b (path_bucket h q (suc k))))
    (upto h q b k)

pub path-or : (h : ℕ) (q : Leaf) (b : Bucket) → OnPath h q b ⊎ OffPath h q b
path-or h q b =
    ⊎_elim (λ r. inl (record { level = r.0; within = r.1; is = r.2 })) (λ n. inr (λ o. n o.level o.within o.is)) (upto h q b h)

-- children of a bucket off a path are off it
pub child-off : (h : ℕ) (q : Leaf) → q.0 < leaves_of h → (b c : Bucket) → 2 ≤ number c → number c / 2 ≡ number b → OffPath h q b → OffPath h q c
child-off h q inside b c low half off o = go o.level o.within o.is
  where
    go : (d : ℕ) → d ≤ h → c ≡ path_bucket h q d → ⊥
    go zero l e = omega (arith, ap number (e ∙ path-root h q inside))
    go (suc d) l e =
        let up : number b ≡ number (path_bucket h q d) = sym half ∙ ap (λ (a : Bucket). number a / 2) e ∙ sym (path_parent h q d l) in
        off (record { level = d; within = omega arith; is = ap bucket up })

-- ---- a Tree with another way: U holds f d in the path's bucket at level d, the root's is level 0, and all else as T does
pub record Lays (h : ℕ) (q : Leaf) (f : ℕ → Contents) (T U : Tree) : Type 0 where
  pub on : (d : ℕ) → d ≤ h → U (path_bucket h q d) ≡ f d
  pub off : (b : Bucket) → OffPath h q b → U b ≡ T b

-- ---- one bucket replaced
module _ (b : Bucket) (c : Contents) (T : Tree) where
  pub put-here : put b c T b ≡ c
  unfolding put
  put-here = rw (eq-eqb (number b) (number b) refl)

  pub put_other : (a : Bucket) → (a ≡ b → ⊥) → put b c T a ≡ T a
  unfolding put
  put_other a n = rw (ne_eqb (number a) (number b) (λ e. n (ap bucket e)))

-- ---- some levels replaced
module _ (g : ℕ → Bucket) (f : ℕ → Contents) where
  pub levels-off : (a n : ℕ) (T : Tree) (b : Bucket) → ((d : ℕ) → a ≤ d → d < a + n → b ≡ g d → ⊥)
      → put_all (map g (up_from a n)) (map f (up_from a n)) T b ≡ T b
  unfolding put_all up_from
  levels-off a zero T b off = refl
  levels-off a (suc n) T b off =
      levels-off (suc a) n (put (g a) (f a) T) b (λ d l m. off d (omega arith) (omega arith))
      ∙ put_other (g a) (f a) T b (off a (omega arith) (omega arith))

  pub levels-on : (a n : ℕ) (T : Tree) → ((d e : ℕ) → a ≤ d → d < e → e < a + n → g d ≡ g e → ⊥) → (d : ℕ) → a ≤ d → d < a + n
      → put_all (map g (up_from a n)) (map f (up_from a n)) T (g d) ≡ f d
  unfolding put_all up_from
  levels-on a zero T apart d l m = absurd (omega arith)
  levels-on a (suc n) T apart d l m = elim (dec_le d a) [
    | yes k ↦
        let e : a ≡ d = omega arith in
        rw (← e) (levels-off (suc a) n (put (g a) (f a) T) (g a) (λ i p q. apart a i (omega arith) (omega arith) (omega arith))
        ∙ put-here (g a) (f a) T)
    | no k ↦ levels-on (suc a) n (put (g a) (f a) T) (λ i j p q r. apart i j (omega arith) q (omega arith)) d (omega arith) (omega arith)
  ]

-- ---- a path's levels are distinct buckets
module _ (h : ℕ) (q : Leaf) (inside : q.0 < leaves_of h) where
  pub level-apart : (d e : ℕ) → d < e → e ≤ h → path_bucket h q d ≡ path_bucket h q e → ⊥
  level-apart d e l m i = omega (arith, levels-apart h q q inside inside d e l m, ap number i)

  pub not_root : (d : ℕ) → 1 ≤ d → d ≤ h → path_bucket h q d ≡ root → ⊥
  not_root d l m i = omega (arith, path-in-tree h q inside d l m, ap number i)

  -- a way laid back
  module _ (f : ℕ → Contents) (top : Contents) (T : Tree) where
    levels : path h q 1 ≡ map (path_bucket h q) (up_from 1 h)
    unfolding path
    levels = let e : suc h - 1 ≡ h = omega arith in rw e

    pub laid_root : laid_back h q (map f (up_from 1 h)) top T root ≡ top
    laid_root = put-here root top _

    pub laid_on : (d : ℕ) → 1 ≤ d → d ≤ h → laid_back h q (map f (up_from 1 h)) top T (path_bucket h q d) ≡ f d
    laid_on d l m =
        put_other root top _ (path_bucket h q d) (not_root d l m)
        ∙ rw levels (levels-on (path_bucket h q) f 1 h T (λ i j p q r. level-apart i j q (omega arith)) d l (omega arith))

    pub laid-off : (b : Bucket) → OffPath h q b → laid_back h q (map f (up_from 1 h)) top T b ≡ T b
    laid-off b off =
        put_other root top _ b (λ e. off (record { level = 0; within = omega arith; is = e ∙ sym (path-root h q inside) }))
        ∙ rw levels (levels-off (path_bucket h q) f 1 h T b (λ d l m e. off (record { level = d; within = omega arith; is = e })))
