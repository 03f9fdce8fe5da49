-- A field read from the left: where the loop begins, what a turn does, what it comes to, and what refuses a field.
-- Assumes nothing.
use Prim.Native.Nat.{ℕ, ◌+◌, ◌*◌, ◌-◌, ◌^◌, ◌≤◌, ◌<◌}
use mathlib.Core.Bool.{true, false, ◌&&◌, cond, and-true, and-false}
use mathlib.Core.List.{List}
use mathlib.Core.Path.{◌≡◌, refl, ◌∙◌}
use native.Mathlib.Omega.{arith}
use native.Mathlib.Numerals.{add-one}
use lib.Dec.{eqb}
use lib.ListN.{length, get_or, drop, drop_of_length-le}
use lib.Seq.{drop-cons}
use borrow.Author.Tests.{lt-ltb, le-ltb, le-leb, eq-eqb, ne_eqb}
use Rattle.std.specs.Prelude.{Some, None}
use Rattle.decimal.specs.Digits.{value_from, value}
use Rattle.decimal.specs.Field.{is_digit, all_digits, leading_zero, is_number, reads}
use Rattle.decimal.proofs.ValueLaws.{value_grows}

-- ---- what refuses a field
module _ (field : List ℕ) where
  unread : is_number field ≡ false → None ≡ reads field
  unread e = rw e

  pub refused-empty : length field ≡ 0 → None ≡ reads field
  unfolding is_number
  refused-empty e = unread (rw (eq-eqb (length field) 0 e))

  pub refused-zero : leading_zero field ≡ true → None ≡ reads field
  unfolding is_number
  refused-zero e = unread (simp (e, and-false))

  refused-byte : all_digits field ≡ false → None ≡ reads field
  unfolding is_number
  refused-byte e = unread (simp (e, and-false))

  refused-value : 2 ^ 64 ≤ value field → None ≡ reads field
  unfolding is_number
  refused-value l = unread (simp (le-ltb (value field) (2 ^ 64) l, and-false))

-- ---- a leading zero
module _ (field : List ℕ) where
  pub zero-leads : 1 < length field → leading_zero field ≡ eqb (get_or field 0 0) 48
  zero-leads l = rw (lt-ltb 1 (length field) l, and-true)

  pub none-leads : length field ≤ 1 → leading_zero field ≡ false
  none-leads l = rw (le-ltb 1 (length field) l, and-false)

-- ---- a digit
pub digit-passes : (b : ℕ) → 48 ≤ b → b ≤ 57 → is_digit b ≡ true
digit-passes b l m = rw (le-leb 48 b l, le-leb b 57 m)

-- ---- the loop: n is what the first i digits stand for
pub record Scanning (field : List ℕ) (n i : ℕ) : Type 0 where
  pub place : i ≤ length field
  pub small : n < 2 ^ 64
  pub rest : all_digits field ≡ all_digits (drop i field)
  pub sum : value field ≡ value_from n (drop i field)

pub scanning-starts : (field : List ℕ) → Scanning field 0 0
scanning-starts field = record { place = omega arith; small = omega arith; rest = refl; sum = refl }

module _ (field : List ℕ) (n i : ℕ) (s : Scanning field n i) where
  module _ (l : i < length field) where
    next-rest : all_digits field ≡ is_digit (get_or field i 0) && all_digits (drop (i + 1) field)
    unfolding all_digits
    next-rest = s.rest ∙ rw (drop-cons field i 0 l, add-one)

    next-sum : value field ≡ value_from (n * 10 + (get_or field i 0 - 48)) (drop (i + 1) field)
    unfolding value_from
    next-sum = s.sum ∙ rw (drop-cons field i 0 l, add-one)

    pub scanning-turns :
        is_digit (get_or field i 0) ≡ true → (m : ℕ) → m ≡ n * 10 + (get_or field i 0 - 48) → m < 2 ^ 64
        → Scanning field m (i + 1)
    scanning-turns is m e fits =
        record { place = omega arith; small = fits; rest = next-rest ∙ rw is; sum = rw e next-sum }

    pub refused-at : is_digit (get_or field i 0) ≡ false → None ≡ reads field
    refused-at e = refused-byte field (next-rest ∙ rw e)

    pub refused_over : 2 ^ 64 ≤ n * 10 + (get_or field i 0 - 48) → None ≡ reads field
    refused_over over =
        refused-value field (omega (arith, next-sum, value_grows (n * 10 + (get_or field i 0 - 48)) (drop (i + 1) field)))

  pub scanning-ends :
      length field ≤ i → (length field ≡ 0 → ⊥) → leading_zero field ≡ false → Some n ≡ reads field
  unfolding is_number all_digits value_from
  scanning-ends l some lead =
      let none = drop_of_length-le field {i = i} l in
      let all : all_digits field ≡ true = s.rest ∙ rw none in
      let is : value field ≡ n = s.sum ∙ rw none in
      rw (ne_eqb (length field) 0 some, lead, all, is, lt-ltb n (2 ^ 64) s.small)

-- ---- what a reading tells
module _ (field : List ℕ) where
  pub read_number : (n : ℕ) → reads field ≡ Some n → (is_number field ≡ true) × (value field ≡ n)
  read_number n = (elim (is_number field) as (λ t. is_number field ≡ t → cond t (Some (value field)) None ≡ Some n → (is_number field ≡ true) × (value field ≡ n)) [
    | true ↦ λ e r. (e, cc)
    | false ↦ λ e r. cc
  ]) refl

  pub read_none : reads field ≡ None → is_number field ≡ false
  read_none = (elim (is_number field) as (λ t. is_number field ≡ t → cond t (Some (value field)) None ≡ None → is_number field ≡ false) [
    | true ↦ λ e r. cc
    | false ↦ λ e r. e
  ]) refl
