-- How many digits a number has. Assumes nothing.
use Prim.Native.Nat.{ℕ, zero, suc, ◌+◌, ◌-◌, ◌*◌, ◌^◌, ◌≤◌, ◌<◌, max}
use mathlib.Core.Bool.{true, false, cond}
use mathlib.Core.Path.{◌≡◌, refl, sym}
use native.Mathlib.Omega.{arith}
use native.Mathlib.Nat.{pow-le-pow_right}
use native.Mathlib.Numerals.{add-one}
use lib.Dec.{ltb}
use borrow.Author.Tests.{ltb-true, ltb-false}
use Rattle.decimal.specs.Digits.{fewest, width_of}
use Rattle.decimal.proofs.ValueLaws.{ten-next}

-- ---- k is the fewest digits, and no fewer than one, that hold n
pub record Fewest (n k : ℕ) : Type 0 where
  pub some : 0 < k
  pub holds : n < 10 ^ k
  pub needed : 1 < k → 10 ^ (k - 1) ≤ n

fewest-is : (more j n k : ℕ) → j ≤ k → k ≤ j + more → 0 < j → Fewest n k → fewest more j n ≡ k
unfolding fewest
fewest-is zero j n k l m p f = omega arith
fewest-is (suc more) j n k l m p f = (elim (ltb n (10 ^ j)) as (λ t. ltb n (10 ^ j) ≡ t → cond t j (fewest more (suc j) n) ≡ k) [
  | true ↦ λ e. enough (ltb-true _ _ e)
  | false ↦ λ e. fewest-is more (suc j) n k (more-needed (ltb-false _ _ e)) (omega arith) (omega arith) f
]) refl
  where
    enough : n < 10 ^ j → j ≡ k
    enough short = (elim (ltb j k) as (λ t. ltb j k ≡ t → j ≡ k) [
      | true ↦ λ e.
          let lt = ltb-true j k e in
          let up = pow-le-pow_right {n = 10} (omega arith) {i = j} {j = k - 1} (omega arith) in
          omega (arith, f.needed (omega arith))
      | false ↦ λ e. omega (arith, ltb-false j k e)
    ]) refl

    more-needed : 10 ^ j ≤ n → suc j ≤ k
    more-needed long = (elim (ltb j k) as (λ t. ltb j k ≡ t → suc j ≤ k) [
      | true ↦ λ e. omega (arith, ltb-true j k e)
      | false ↦ λ e.
          let same : j ≡ k = omega (arith, ltb-false j k e) in
          let h : n < 10 ^ j = rw same f.holds in
          omega arith
    ]) refl

pub width_is : (n k : ℕ) → k ≤ 20 → Fewest n k → width_of n ≡ k
width_is n k l f = fewest-is 19 1 n k f.some (omega arith) (omega arith) f

-- the fewest that was found is the fewest there is
found-fewest : (more j n : ℕ) → 0 < j → (1 < j → 10 ^ (j - 1) ≤ n) → n < 10 ^ (j + more) → Fewest n (fewest more j n)
unfolding fewest
found-fewest zero j n p need l =
    let none : j + 0 ≡ j = omega arith in
    record { some = p; holds = rw none at l; needed = need }
found-fewest (suc more) j n p need l = (elim (ltb n (10 ^ j)) as (λ t. ltb n (10 ^ j) ≡ t → Fewest n (cond t j (fewest more (suc j) n))) [
  | true ↦ λ e. record { some = p; holds = ltb-true _ _ e; needed = need }
  | false ↦ λ e.
      let long = ltb-false n (10 ^ j) e in
      let back : suc j - 1 ≡ j = omega arith in
      let far : j + suc more ≡ suc j + more = omega arith in
      found-fewest more (suc j) n (omega arith) (λ m. rw back long) (rw far at l)
]) refl

pub width-fewest : (n : ℕ) → n < 2 ^ 64 → Fewest n (width_of n)
width-fewest n l =
    found-fewest 19 1 n (omega arith) (λ m. omega arith) (omega arith)

-- ---- the number, or 1 where it is 0, lies between two powers of ten
pub width-found : (n k : ℕ) → k < 20 → 10 ^ k ≤ max n 1 → max n 1 < 10 * 10 ^ k → k + 1 ≡ width_of n
width-found n k few low high =
    sym (width_is n (k + 1) (omega arith) (record {
      some = omega arith;
      holds = rw add-one (omega (arith, ten-next k));
      needed = λ p.
          let back : k + 1 - 1 ≡ k = omega arith in
          let up = pow-le-pow_right {n = 10} (omega arith) {i = 1} {j = k} (omega arith) in
          rw back (omega arith);
    }))
