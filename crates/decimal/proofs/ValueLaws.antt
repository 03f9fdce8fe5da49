-- What digits stand for, and the digits of what they stand for. Assumes nothing.
use Prim.Native.Nat.{ℕ, zero, suc, ◌+◌, ◌*◌, ◌-◌, ◌/◌, ◌%◌, ◌^◌, ◌≤◌, ◌<◌}
use mathlib.Core.Bool.{true, and-eq-true_iff as both}
use mathlib.Core.List.{List, [], ◌∷◌}
use mathlib.Core.Path.{◌≡◌, refl, sym, ap, ◌∙◌}
use native.Mathlib.Omega.{arith}
use native.Mathlib.Nat.{pow-suc, div-one, div-div-eq-div-mul, div-add-mod', div-eq_of_lt, div-eq_of_lt-le, one-le-pow, mul_assoc, mul_comm, mul-le-mul_right}
use lib.ListN.{length}
use borrow.Author.Tests.{leb-true}
use Rattle.decimal.specs.Digits.{digits, value_from, value}
use Rattle.decimal.specs.Field.{is_digit, all_digits}

-- ---- tests
pub is_digit_lem : (b : ℕ) → is_digit b ≡ true → (48 ≤ b) × (b ≤ 57)
is_digit_lem b e =
    let (l, m) = (both _ _).0 e in
    (leb-true 48 b l, leb-true b 57 m)

-- ---- powers of ten
pub ten-pos : (k : ℕ) → 0 < 10 ^ k
ten-pos k = one-le-pow k 10 (omega arith)

pub ten-next : (k : ℕ) → 10 ^ suc k ≡ 10 ^ k * 10
ten-next k = pow-suc 10 k

pub shorter : (n k : ℕ) → n / 10 ^ k / 10 ≡ n / 10 ^ suc k
shorter n k = div-div-eq-div-mul n (10 ^ k) 10 ∙ ap (λ (p : ℕ). n / p) (sym (ten-next k))

-- ---- what the digits of n stand for
pub value_grows : (v : ℕ) (bs : List ℕ) → v ≤ value_from v bs
unfolding value_from
value_grows v [] = omega arith
value_grows v (b ∷ bs) = omega (arith, value_grows (v * 10 + (b - 48)) bs)

value-back : (k n : ℕ) → value_from (n / 10 ^ k) (digits k n) ≡ n
unfolding value_from digits
value-back zero n = div-one n
value-back (suc k) n =
    let step : n / 10 ^ suc k * 10 + (48 + n / 10 ^ k % 10 - 48) ≡ n / 10 ^ k =
    omega (arith, shorter n k, div-add-mod' (n / 10 ^ k) 10) in
    ap (λ (v : ℕ). value_from v (digits k n)) step ∙ value-back k n

pub value-digits : (k n : ℕ) → n < 10 ^ k → value (digits k n) ≡ n
value-digits k n l = rw (div-eq_of_lt l) at (value-back k n)

-- ---- the digits of what some digits stand for
record Bounds (v : ℕ) (bs : List ℕ) : Type 0 where
  least : v * 10 ^ length bs ≤ value_from v bs
  most : value_from v bs < (v + 1) * 10 ^ length bs

bounds : (v : ℕ) (bs : List ℕ) → all_digits bs ≡ true → Bounds v bs
unfolding value_from all_digits
bounds v [] e = record { least = omega arith; most = omega arith }
bounds v (b ∷ bs) e =
    let (d, ds) = (both _ _).0 e in
    let (l, m) = is_digit_lem b d in
    let w = v * 10 + (b - 48) in
    let r = bounds w bs ds in
    let p = 10 ^ length bs in
    let low : v * 10 * p ≤ w * p = mul-le-mul_right p (omega arith) in
    let high : (w + 1) * p ≤ (v + 1) * 10 * p = mul-le-mul_right p (omega arith) in
    let next : (u : ℕ) → u * 10 ^ suc (length bs) ≡ u * 10 * p = λ u.
    rw (ten-next (length bs), mul_comm p 10, mul_assoc u 10 p) in
    record { least = rw next (omega (arith, r.least)); most = rw (next (v + 1)) (omega (arith, r.most)) }

pub value-front : (v : ℕ) (bs : List ℕ) → all_digits bs ≡ true → value_from v bs / 10 ^ length bs ≡ v
value-front v bs e =
    let r = bounds v bs e in
    div-eq_of_lt-le (10 ^ length bs) r.least r.most

pub digits_value : (v : ℕ) (bs : List ℕ) → all_digits bs ≡ true → digits (length bs) (value_from v bs) ≡ bs
unfolding value_from all_digits digits
digits_value v [] e = refl
digits_value v (b ∷ bs) e =
    let (d, ds) = (both _ _).0 e in
    let (l, m) = is_digit_lem b d in
    let head : 48 + (v * 10 + (b - 48)) % 10 ≡ b = omega arith in
    rw (value-front (v * 10 + (b - 48)) bs ds, digits_value (v * 10 + (b - 48)) bs ds, head)
