-- What the first row of a table that is given tells of the others. Assumes nothing.
use Prim.Native.Nat.{ℕ, zero, suc}
use mathlib.Core.Bool.{Bool, true, false}
use mathlib.Core.List.{List, [], ◌∷◌, ◌++◌}
use mathlib.Core.Path.{◌≡◌, refl, sym, ap, ◌∙◌}
use native.Mathlib.Omega.{arith}
use Rattle.refusal.specs.Refusal.{Refusal, row, first_given, or_else, afterwards}

-- ---- the first of two refusals
pub or-first : (m n : ℕ) → (m ≡ 0 → ⊥) → or_else m n ≡ m
or-first zero n h = absurd (h refl)
or-first (suc m) n h = refl

pub or-second : (m n : ℕ) → m ≡ 0 → or_else m n ≡ n
or-second m n e = ap (λ (x : ℕ). or_else x n) e

-- neither is given
or-none : (m n : ℕ) → or_else m n ≡ 0 → (m ≡ 0) × (n ≡ 0)
or-none zero n e = (refl, e)
or-none (suc m) n e = absurd (omega arith)

-- ---- what stands after a refusal, and after none
pub left-before : {A : Type 0} (n : ℕ) (done before : A) → (n ≡ 0 → ⊥) → afterwards n done before ≡ before
left-before zero done before h = absurd (h refl)
left-before (suc n) done before h = refl

pub left-done : {A : Type 0} (n : ℕ) (done before : A) → n ≡ 0 → afterwards n done before ≡ done
left-done n done before e = ap (λ (x : ℕ). afterwards x done before) e

-- ---- the rows of a table

-- none is given: neither the first, nor any after it
pub none-given : (n : ℕ) (b : Bool) (xs : List Refusal) → (n ≡ 0 → ⊥) → first_given (row n b ∷ xs) ≡ 0
    → (b ≡ false) × (first_given xs ≡ 0)
unfolding first_given
none-given n true xs h e = absurd (h e)
none-given n false xs h e = (refl, e)

-- every number that a table can give has P: each row's has, up to one that is surely given, but for rows that are surely not
pub data Rows (P : ℕ → Type 0) : List Refusal → Type 0 where
  none : Rows P []
  next : (n : ℕ) {b : Bool} {xs : List Refusal} → P n → Rows P xs → Rows P (row n b ∷ xs)
  past : (n : ℕ) {b : Bool} {xs : List Refusal} → b ≡ false → Rows P xs → Rows P (row n b ∷ xs)
  stop : (n : ℕ) {b : Bool} {xs : List Refusal} → b ≡ true → P n → Rows P (row n b ∷ xs)

pub first_of : {P : ℕ → Type 0} {xs : List Refusal} → P 0 → Rows P xs → P (first_given xs)
unfolding first_given
first_of z none = z
first_of z (next n {b = true} h t) = h
first_of z (next n {b = false} h t) = first_of z t
first_of z (past n e t) = rw e (first_of z t)
first_of z (stop n e h) = rw e h

pub rows_append : {P : ℕ → Type 0} {xs ys : List Refusal} → Rows P xs → Rows P ys → Rows P (xs ++ ys)
rows_append none r = r
rows_append (next n h t) r = next n h (rows_append t r)
rows_append (past n e t) r = past n e (rows_append t r)
rows_append (stop n e h) r = stop n e h

-- every number of a table tells a refusal from none
abbrev pub Numbered : List Refusal → Type 0
Numbered = Rows (λ n. n ≡ 0 → ⊥)

-- two tables one after the other
pub first-append : {xs : List Refusal} (ys : List Refusal) → Numbered xs
    → first_given (xs ++ ys) ≡ or_else (first_given xs) (first_given ys)
unfolding first_given
first-append ys none = refl
first-append ys (next n {b = true} h t) = sym (or-first n (first_given ys) h)
first-append ys (next n {b = false} h t) = first-append ys t
first-append ys (past n e t) = rw e (first-append ys t)
first-append ys (stop n e h) = rw e (sym (or-first n (first_given ys) h))

pub append-none : {xs : List Refusal} (ys : List Refusal) → Numbered xs → first_given (xs ++ ys) ≡ 0
    → (first_given xs ≡ 0) × (first_given ys ≡ 0)
append-none {xs} ys t e = or-none (first_given xs) (first_given ys) (sym (first-append ys t) ∙ e)
