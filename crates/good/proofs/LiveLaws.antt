-- One of the live events goes: which are left, how many, in which order, and that no stamp stands twice; and one comes in
-- last. Assumes nothing.
use Prim.Native.Nat.{suc, ◌<◌}
use mathlib.Core.Bool.{false}
use mathlib.Core.List.Memᴰ
use mathlib.Core.List.{List, [], ◌∷◌, ◌++◌, Memᴰ}
use mathlib.Core.Logic.{⊎_elim, ◌⊎◌, inl, inr}
use mathlib.Core.Path.{◌≡◌, refl, sym, ap, ◌∙◌}
use mathlib.Mathlib.Data.Bool.Basic.{dichotomy}
use lib.Dec.{eqb}
use lib.ListN.{length}
use borrow.Author.Tests.{eqb-true, eqb-false, eq-eqb, ne_eqb}
use Rattle.record.specs.declared.Stamp.{Stamp}
use Rattle.record.specs.declared.Record.{Record}
use Rattle.record.specs.Standing.{is_dummy}
use Rattle.good.specs.Live.{without, Ascending}
use Rattle.good.proofs.OnceLaws.{Once, more}

module _ (s : Stamp) where
  module _ (x : Record) (xs : List Record) where
    without-here : x.stamp.0 ≡ s.0 → without s (x ∷ xs) ≡ xs
    unfolding without
    without-here e = rw (eq-eqb x.stamp.0 s.0 e)

    without-later : (x.stamp.0 ≡ s.0 → ⊥) → without s (x ∷ xs) ≡ x ∷ without s xs
    unfolding without
    without-later n = rw (ne_eqb x.stamp.0 s.0 n)

    stamp-or : (x.stamp.0 ≡ s.0) ⊎ (x.stamp.0 ≡ s.0 → ⊥)
    stamp-or = elim (dichotomy (eqb x.stamp.0 s.0)) [
      | inl f ↦ inr (eqb-false _ _ f)
      | inr t ↦ inl (eqb-true _ _ t)
    ]

  -- what is left was there
  pub without_in : {y : Record} (w : List Record) → Memᴰ y (without s w) → Memᴰ y w
  unfolding without
  without_in [] m = m
  without_in (x ∷ xs) m =
      ⊎_elim (λ e. Memᴰ.tail (rw (without-here x xs e) at m))
      (λ n. ⊎_elim Memᴰ.head (λ i. Memᴰ.tail (without_in xs i)) (Memᴰ.cases_cons (rw (without-later x xs n) at m)))
      (stamp-or x xs)

  -- and has another stamp
  pub without_other : {y : Record} (w : List Record) → ((x : Record) → Memᴰ x w → is_dummy x ≡ false) → Once w → Memᴰ y (without s w)
      → y.stamp.0 ≡ s.0 → ⊥
  unfolding without
  without_other [] real o m e = Memᴰ.not-nil m
  without_other {y} (x ∷ xs) real (more f o) m e =
      ⊎_elim
      (λ i.
      let k = rw (without-here x xs i) at m in
      f y k (record { one = real x (Memᴰ.head refl); two = real y (Memᴰ.tail k); stamp = i ∙ sym e }))
      (λ n. ⊎_elim (λ i. n (ap (λ (r : Record). r.stamp.0) (sym i) ∙ e))
      (λ i. without_other xs (λ z k. real z (Memᴰ.tail k)) o i e) (Memᴰ.cases_cons (rw (without-later x xs n) at m)))
      (stamp-or x xs)

  -- all others stay
  pub without-stay : {y : Record} (w : List Record) → Memᴰ y w → (y.stamp.0 ≡ s.0 → ⊥) → Memᴰ y (without s w)
  unfolding without
  without-stay [] m n = m
  without-stay (x ∷ xs) m n =
      ⊎_elim
      (λ i. rw (without-here x xs i) (⊎_elim (λ e. absurd (n (ap (λ (r : Record). r.stamp.0) e ∙ i))) (λ k. k) (Memᴰ.cases_cons m)))
      (λ i. rw (without-later x xs i) (⊎_elim Memᴰ.head (λ k. Memᴰ.tail (without-stay xs k n)) (Memᴰ.cases_cons m)))
      (stamp-or x xs)

  pub without-once : (w : List Record) → Once w → Once (without s w)
  unfolding without
  without-once [] o = o
  without-once (x ∷ xs) (more f o) =
      ⊎_elim (λ i. rw (without-here x xs i) o)
      (λ n. rw (without-later x xs n) (more (λ y m k. f y (without_in xs m) k) (without-once xs o))) (stamp-or x xs)

  -- one fewer
  pub without-length : {y : Record} (w : List Record) → Memᴰ y w → y.stamp.0 ≡ s.0 → length w ≡ suc (length (without s w))
  unfolding without
  without-length [] m e = absurd (Memᴰ.not-nil m)
  without-length (x ∷ xs) m e =
      ⊎_elim (λ i. rw (without-here x xs i))
      (λ n. rw (without-later x xs n)
      (⊎_elim (λ i. absurd (n (ap (λ (r : Record). r.stamp.0) (sym i) ∙ e))) (λ k. ap suc (without-length xs k e)) (Memᴰ.cases_cons m)))
      (stamp-or x xs)

  -- and in the same order
  pub without-ascending : {w : List Record} → Ascending w → Ascending (without s w)
  unfolding without
  without-ascending Ascending.none = Ascending.none
  without-ascending (Ascending.more {x} {xs} f a) =
      ⊎_elim (λ i. rw (without-here x xs i) a)
      (λ n. rw (without-later x xs n) (Ascending.more (λ y m. f y (without_in xs m)) (without-ascending a))) (stamp-or x xs)

-- one that comes in last has the largest stamp
pub append-ascending : {w : List Record} (new : Record) → Ascending w → ((x : Record) → Memᴰ x w → x.stamp.0 < new.stamp.0)
    → Ascending (w ++ (new ∷ []))
append-ascending new Ascending.none low = Ascending.more (λ y m. absurd (Memᴰ.not-nil m)) Ascending.none
append-ascending new (Ascending.more {x} {xs} f a) low =
    Ascending.more
    (λ y m. ⊎_elim (λ i. f y i) (λ i. let e = Memᴰ.eq_of_singleton i in rw e (low x (Memᴰ.head refl))) (Memᴰ.append_cases xs m))
    (append-ascending new a (λ y m. low y (Memᴰ.tail m)))
