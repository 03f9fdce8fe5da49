-- A number written from its last digit to its first: where the loop begins, what a turn does, what it comes to.
-- Assumes nothing.
use Prim.Native.Nat.{ℕ, zero, suc, ◌+◌, ◌-◌, ◌/◌, ◌%◌, ◌^◌, ◌≤◌, ◌<◌}
use mathlib.Core.Bool.{true, false, cond}
use mathlib.Core.List.{List, ◌++◌}
use mathlib.Core.Path.{◌≡◌, refl, sym, ap, ◌∙◌}
use native.Mathlib.Omega.{arith}
use native.Mathlib.Nat.{div-one}
use lib.ListN.{length, take, drop, set, length-append, length-set, take-append-drop, drop_of_length-le}
use lib.Seq.{length-take-le, take-set-lt, drop-set-lt, drop-cons, get_or-set_same}
use borrow.Author.Tests.{le-leb, lt-leb}
use Rattle.decimal.specs.Digits.{digits, width_of, decimal}
use Rattle.decimal.specs.Promises.{has_room, Laid}
use Rattle.decimal.proofs.ValueLaws.{shorter}

pub digits-length : (k n : ℕ) → length (digits k n) ≡ k
unfolding digits
digits-length zero n = refl
digits-length (suc k) n = ap suc (digits-length k n)

-- from place i on the last digits of k stand in their places; `rest` is n without them
pub record Spelling (n k : ℕ) (old : List ℕ) (rest i : ℕ) (now : List ℕ) : Type 0 where
  pub place : i ≤ k
  pub room : length now ≡ length old
  pub cut : rest ≡ n / 10 ^ (k - i)
  pub done : drop i (take k now) ≡ digits (k - i) n
  pub past : drop k now ≡ drop k old

module _ (n k : ℕ) (old : List ℕ) (l : k ≤ length old) where
  pub spelling-starts : Spelling n k old n k old
  unfolding digits
  spelling-starts =
      let none : k - k ≡ 0 = omega arith in
      record {
        place = omega arith;
        room = refl;
        cut = rw none (sym (div-one n));
        done = rw (drop_of_length-le (take k old) {i = k} (omega (arith, length-take-le k old l)), none);
        past = refl;
      }

  pub spelling-turns :
      (rest i : ℕ) (now : List ℕ) → Spelling n k old rest i now → 0 < i
      → Spelling n k old (rest / 10) (i - 1) (set now (i - 1) (48 + rest % 10))
  unfolding digits
  spelling-turns rest i now s m =
      let b = 48 + rest % 10 in
      let within : i - 1 < length (take k now) = omega (arith, length-take-le k now (omega (arith, s.room))) in
      let next : k - (i - 1) ≡ suc (k - i) = omega arith in
      let after : suc (i - 1) ≡ i = omega arith in
      record {
        place = omega arith;
        room = length-set now (i - 1) b ∙ s.room;
        cut = rw (s.cut, next) (shorter n (k - i));
        done =
            rw (
              next,
              take-set-lt k now (i - 1) b (omega arith),
              drop-cons (set (take k now) (i - 1) b) (i - 1) 0 (rw length-set within),
              get_or-set_same (take k now) (i - 1) b 0 within,
              drop-set-lt (suc (i - 1)) (take k now) (i - 1) b (omega arith),
              after,
              s.done,
              s.cut,
            );
        past = drop-set-lt k now (i - 1) b (omega arith) ∙ s.past;
      }

  pub spelling-ends : (rest i : ℕ) (now : List ℕ) → Spelling n k old rest i now → i ≤ 0 → now ≡ digits k n ++ drop k old
  spelling-ends rest i now s m =
      let none : i ≡ 0 = omega arith in
      let all : k - 0 ≡ k = omega arith in
      let head : take k now ≡ digits k n = rw (none, all) at s.done in
      sym (take-append-drop k now) ∙ rw (head, s.past)

-- ---- what is promised
module _ (bytes old : List ℕ) where
  pub no_room : length old < length bytes → Laid bytes old 0 old
  no_room l =
      let short = lt-leb (length bytes) (length old) l in
      record { counted = rw short; lent = rw short }

  pub in-room :
      (k : ℕ) (now : List ℕ) → k ≡ length bytes → length bytes ≤ length old → now ≡ bytes ++ drop (length bytes) old
      → Laid bytes old k now
  in-room k now e l is =
      let enough = le-leb (length bytes) (length old) l in
      record { counted = rw enough e; lent = rw enough is }

module _ (n k : ℕ) (old : List ℕ) (e : k ≡ width_of n) where
  pub number-no-room : length old < k → Laid (decimal n) old 0 old
  number-no-room l = no_room (decimal n) old (omega (arith, digits-length (width_of n) n))

  pub number-in-room : (now : List ℕ) → k ≤ length old → now ≡ digits k n ++ drop k old → Laid (decimal n) old k now
  number-in-room now l is =
      let size = digits-length (width_of n) n in
      in-room (decimal n) old k now (omega arith) (omega arith) (rw (size, ← e) is)

-- ---- what a promise tells where there is room
pub laid-in-room :
    (bytes old : List ℕ) (k : ℕ) (now : List ℕ) → Laid bytes old k now → length bytes ≤ length old
    → (k ≡ length bytes) × (now ≡ bytes ++ drop (length bytes) old)
laid-in-room bytes old k now p l =
    let enough = le-leb (length bytes) (length old) l in
    (rw enough at p.counted, rw enough at p.lent)

pub decimal-length : (n : ℕ) → length (decimal n) ≡ width_of n
decimal-length n = digits-length (width_of n) n

pub laid-within : (bytes old : List ℕ) (k : ℕ) (now : List ℕ) → Laid bytes old k now → k ≤ length now
laid-within bytes old k now p = (elim (has_room bytes old) as (λ t. k ≡ cond t (length bytes) 0 → now ≡ cond t (bytes ++ drop (length bytes) old) old → k ≤ length now) [
  | true ↦ λ c n. rw (n, length-append) (omega arith)
  | false ↦ λ c n. omega arith
]) p.counted p.lent
