-- Reading and printing belong together: what is printed is read as the number, and a field that is read is what is printed
-- for its number. So a number has exactly one field. Assumes nothing.
use Prim.Native.Nat.{ℕ, zero, suc, ◌+◌, ◌*◌, ◌-◌, ◌/◌, ◌%◌, ◌^◌, ◌≤◌, ◌<◌}
use mathlib.Core.Bool.{true, false, and-false, and-true, and-eq-true_iff as both}
use mathlib.Core.List.{List, [], ◌∷◌}
use mathlib.Core.Path.{◌≡◌, refl, sym}
use native.Mathlib.Omega.{arith}
use native.Mathlib.Nat.{pow-le-pow_right, le-div_iff_mul-le, div-lt_iff_lt-mul}
use lib.Dec.{ltb, eqb}
use lib.ListN.{length}
use borrow.Author.Tests.{ltb-true, ltb-false, lt-ltb, eqb-false, ne_eqb, not-true}
use Rattle.std.specs.Prelude.{Some}
use Rattle.decimal.specs.Digits.{digits, width_of, decimal, value_from, value}
use Rattle.decimal.specs.Field.{all_digits, leading_zero, is_number, reads}
use Rattle.decimal.proofs.ValueLaws.{is_digit_lem, ten-pos, ten-next, value-digits, digits_value, value-front}
use Rattle.decimal.proofs.FieldLaws.{digit-passes}
use Rattle.decimal.proofs.WidthLaws.{Fewest, width_is, width-fewest}
use Rattle.decimal.proofs.PrintLaws.{digits-length}

-- ---- what is printed is read
digits-pass : (k n : ℕ) → all_digits (digits k n) ≡ true
unfolding digits all_digits
digits-pass zero n = refl
digits-pass (suc k) n =
    rw (digit-passes (48 + n / 10 ^ k % 10) (omega arith) (omega arith), digits-pass k n)

no-leading-zero : (n k : ℕ) → Fewest n k → leading_zero (digits k n) ≡ false
unfolding digits
no-leading-zero n zero f = refl
no-leading-zero n (suc zero) f = and-false (eqb (48 + n / 10 ^ 0 % 10) 48)
no-leading-zero n (suc (suc k)) f =
    let back : suc (suc k) - 1 ≡ suc k = omega arith in
    let need : 10 ^ suc k ≤ n = rw back at (f.needed (omega arith)) in
    let low = (le-div_iff_mul-le {k = 10 ^ suc k} {x = 1} {y = n} (ten-pos (suc k))).1 (omega arith) in
    let high = (div-lt_iff_lt-mul {k = 10 ^ suc k} {x = n} {y = 10} (ten-pos (suc k))).1 (omega (arith, f.holds, ten-next (suc k))) in
    rw (ne_eqb (48 + n / 10 ^ suc k % 10) 48 (omega arith))

module _ (n : ℕ) (fits : n < 2 ^ 64) where
  pub printed-value : value (decimal n) ≡ n
  printed-value = value-digits (width_of n) n (width-fewest n fits).holds

  pub printed-is-number : is_number (decimal n) ≡ true
  unfolding is_number
  printed-is-number =
      let f = width-fewest n fits in
      let some = f.some in
      rw (
        ne_eqb (length (decimal n)) 0 (omega (arith, digits-length (width_of n) n)),
        no-leading-zero n (width_of n) f,
        digits-pass (width_of n) n,
        printed-value,
        lt-ltb n (2 ^ 64) fits,
      )

  pub printed-is-read : reads (decimal n) ≡ Some n
  printed-is-read = rw (printed-is-number, printed-value)

-- ---- what is read is printed
pub record Plain (field : List ℕ) : Type 0 where
  pub some : length field ≡ 0 → ⊥
  pub lead : leading_zero field ≡ false
  pub all : all_digits field ≡ true
  pub small : value field < 2 ^ 64

pub number-plain : (field : List ℕ) → is_number field ≡ true → Plain field
unfolding is_number
number-plain field e =
    let (e₃, s) = (both _ _).0 e in
    let (e₂, a) = (both _ _).0 e₃ in
    let (e₁, z) = (both _ _).0 e₂ in
    record {
      some = eqb-false (length field) 0 (not-true _ e₁);
      lead = not-true _ z;
      all = a;
      small = ltb-true _ _ s;
    }

module _ (field : List ℕ) (p : Plain field) where
  held : value field < 10 ^ length field
  held =
      let front = value-front 0 field p.all in
      let h = (div-lt_iff_lt-mul {k = 10 ^ length field} {x = value field} {y = 1} (ten-pos (length field))).0 (omega arith) in
      omega arith

wanted : (field : List ℕ) → Plain field → 1 < length field → 10 ^ (length field - 1) ≤ value field
unfolding value_from all_digits
wanted [] p l = omega arith
wanted (b ∷ bs) p l =
    let (d, ds) = (both _ _).0 p.all in
    let (low, high) = is_digit_lem b d in
    let lead : eqb b 48 ≡ false = (rw (lt-ltb 1 (suc (length bs)) l, and-true) at p.lead) in
    let first = 0 * 10 + (b - 48) in
    let front = value-front first bs ds in
    let some : 48 < b = above b low (eqb-false b 48 lead) in
    let h = (le-div_iff_mul-le {k = 10 ^ length bs} {x = 1} {y = value_from first bs} (ten-pos (length bs))).0 (omega arith) in
    let reached : 10 ^ length bs ≤ value_from first bs = omega arith in
    let back : suc (length bs) - 1 ≡ length bs = omega arith in
    rw back reached
  where
    above : (b : ℕ) → 48 ≤ b → (b ≡ 48 → ⊥) → 48 < b
    above b l ne = (elim (ltb 48 b) as (λ t. ltb 48 b ≡ t → 48 < b) [
      | true ↦ λ e. ltb-true 48 b e
      | false ↦ λ e. absurd (ne (omega (arith, ltb-false 48 b e)))
    ]) refl

plain-fewest : (field : List ℕ) → Plain field → Fewest (value field) (length field)
plain-fewest field p =
    record { some = some-length; holds = held field p; needed = wanted field p }
  where
    some-length : 0 < length field
    some-length = (elim (ltb 0 (length field)) as (λ t. ltb 0 (length field) ≡ t → 0 < length field) [
      | true ↦ λ e. ltb-true 0 (length field) e
      | false ↦ λ e. absurd (p.some (omega (arith, ltb-false 0 (length field) e)))
    ]) refl

few-digits : (field : List ℕ) → Plain field → length field ≤ 20
few-digits field p = (elim (ltb 20 (length field)) as (λ t. ltb 20 (length field) ≡ t → length field ≤ 20) [
  | true ↦ λ e.
      let long = ltb-true 20 (length field) e in
      let up = pow-le-pow_right {n = 10} (omega arith) {i = 20} {j = length field - 1} (omega arith) in
      omega (arith, wanted field p (omega arith), p.small)
  | false ↦ λ e. ltb-false 20 (length field) e
]) refl

pub read-is-printed : (field : List ℕ) → is_number field ≡ true → field ≡ decimal (value field)
read-is-printed field e =
    let p = number-plain field e in
    let w = width_is (value field) (length field) (few-digits field p) (plain-fewest field p) in
    sym (rw w (digits_value 0 field p.all))
