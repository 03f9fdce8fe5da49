-- An order by some numbers, one after the other (`lexically`): its laws, whatever the numbers are. Assumes nothing.
use Prim.Native.Nat.{ℕ, ◌<◌}
use mathlib.Core.Bool.{true, false, and-eq-true_iff, true≢false, ◌&&◌, ◌||◌}
use mathlib.Core.List.{List, [], ◌∷◌, ◌++◌}
use mathlib.Core.Logic.{◌⊎◌, inl, inr, ⊎_elim}
use mathlib.Core.Path.{◌≡◌, refl, sym, ◌∙◌}
use mathlib.Mathlib.Data.Bool.Basic.{dichotomy}
use native.Mathlib.Decide.{dec_lt}
use native.Mathlib.Omega.{arith}
use lib.Dec.{ltb, leb, eqb}
use borrow.Author.Tests.{ltb-true, lt-ltb, le-ltb, le-leb, lt-leb, eqb-true, eqb-false, eq-eqb, ne_eqb}
use Rattle.record.specs.Order.{lexically}

module _ {ℓ} {A : Type ℓ} where
  -- what the first number decides
  module _ (f : A → ℕ) (fs : List (A → ℕ)) (a b : A) where
    lex-true : lexically (f ∷ fs) a b ≡ true → (f a < f b) ⊎ ((f a ≡ f b) × (lexically fs a b ≡ true))
    lex-true h = elim (dichotomy (ltb (f a) (f b))) [
      | inl n ↦ let p = simp and-eq-true_iff at (rw n at h) in inr (eqb-true _ _ p.0, p.1)
      | inr t ↦ inl (ltb-true _ _ t)
    ]

    pub lex-lower : f a < f b → lexically (f ∷ fs) a b ≡ true
    lex-lower l = rw (lt-ltb (f a) (f b) l)

    pub lex-higher : f b < f a → lexically (f ∷ fs) a b ≡ false
    lex-higher l = rw (le-ltb (f a) (f b) (omega arith), ne_eqb (f a) (f b) (omega arith))

    lex-even : f a ≡ f b → lexically (f ∷ fs) a b ≡ lexically fs a b
    lex-even e = rw (le-ltb (f a) (f b) (omega arith), eq-eqb (f a) (f b) e)

  pub lex-refl : (fs : List (A → ℕ)) (a : A) → lexically fs a a ≡ true
  lex-refl [] a = refl
  lex-refl (f ∷ fs) a = lex-even f fs a a refl ∙ lex-refl fs a

  pub lex-total : (fs : List (A → ℕ)) (a b : A) → lexically fs a b ≡ false → lexically fs b a ≡ true
  lex-total [] a b h = absurd (true≢false h)
  lex-total (f ∷ fs) a b h = elim (dec_lt (f b) (f a)) [
    | yes l ↦ lex-lower f fs b a l
    | no m ↦ elim (dec_lt (f a) (f b)) [
      | yes l ↦ absurd (true≢false (sym (lex-lower f fs a b l) ∙ h))
      | no n ↦
          let e : f a ≡ f b = omega arith in
          lex-even f fs b a (sym e) ∙ lex-total fs a b (sym (lex-even f fs a b e) ∙ h)
    ]
  ]

  pub lex-trans :
      (fs : List (A → ℕ)) (a b c : A) → lexically fs a b ≡ true → lexically fs b c ≡ true → lexically fs a c ≡ true
  lex-trans [] a b c h k = refl
  lex-trans (f ∷ fs) a b c h k =
      let below : f a < f c → lexically (f ∷ fs) a c ≡ true = lex-lower f fs a c in
      ⊎_elim
      (λ (l : f a < f b). below (⊎_elim (λ (m : f b < f c). omega arith) (λ m. omega (arith, m.0)) (lex-true f fs b c k)))
      (λ l. ⊎_elim
      (λ (m : f b < f c). below (omega (arith, l.0)))
      (λ m. lex-even f fs a c (l.0 ∙ m.0) ∙ lex-trans fs a b c l.1 m.1)
      (lex-true f fs b c k))
      (lex-true f fs a b h)

  -- those that tie are equal in each number, and so in the last
  pub lex-tie : (f : A → ℕ) (fs : List (A → ℕ)) (a b : A) → lexically (f ∷ fs) a b ≡ true → lexically (f ∷ fs) b a ≡ true
      → (f a ≡ f b) × (lexically fs a b ≡ true) × (lexically fs b a ≡ true)
  lex-tie f fs a b h k = ⊎_elim
      (λ (l : f a < f b). absurd (true≢false (sym k ∙ lex-higher f fs b a l)))
      (λ l. (l.0, l.1, sym (lex-even f fs b a (sym l.0)) ∙ k))
      (lex-true f fs a b h)

  module _ (g : A → ℕ) (a b : A) where
    pub lex-tie-last : (fs : List (A → ℕ)) → lexically (fs ++ (g ∷ [])) a b ≡ true → lexically (fs ++ (g ∷ [])) b a ≡ true
        → g a ≡ g b
    lex-tie-last [] h k = (lex-tie g [] a b h k).0
    lex-tie-last (f ∷ fs) h k =
        let t = lex-tie f (fs ++ (g ∷ [])) a b h k in
        lex-tie-last fs t.1 t.2

    -- a last number in which a is lower: without it the order is the same
    pub lex-last : (fs : List (A → ℕ)) → g a < g b → lexically (fs ++ (g ∷ [])) a b ≡ lexically fs a b
    lex-last [] l = rw (lt-ltb (g a) (g b) l)
    lex-last (f ∷ fs) l = rw (lex-last fs l)

-- the last number of an order, as code compares it
pub leb-last : (m n : ℕ) → leb m n ≡ (ltb m n || (eqb m n && true))
leb-last m n = elim (dec_lt m n) [
  | yes l ↦ rw (lt-ltb m n l, le-leb m n (omega arith))
  | no k ↦ elim (dichotomy (eqb m n)) [
    | inr t ↦ rw (le-ltb m n (omega arith), t, le-leb m n (omega (arith, eqb-true m n t)))
    | inl f ↦
        let g : n < m = omega (arith, eqb-false m n f) in
        rw (le-ltb m n (omega arith), f, lt-leb m n g)
  ]
]
