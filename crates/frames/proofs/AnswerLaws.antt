-- An answer's line, number by number: its length counted down, and its bytes written. Assumes nothing.
use Prim.Native.Nat.{ℕ, suc, ◌+◌, ◌-◌, ◌≤◌, ◌<◌}
use mathlib.Core.Bool.{true, false, cond}
use mathlib.Core.List.{List, [], ◌∷◌, ◌++◌, append_assoc, append-nil}
use mathlib.Core.Path.{◌≡◌, refl, sym, ap, ◌∙◌}
use native.Mathlib.Omega.{arith}
use native.Mathlib.Numerals.{add-one}
use lib.Dec.{leb, ltb}
use lib.ListN.{length, get_or, take, drop, set, length-append, length-drop, take-append-drop, drop_of_length-le}
use lib.Seq.{drop-cons, drop-drop, take_all, take_at, drop_at, set_at, length-take-le}
use borrow.Rule.Slice.PartMut.{mid_of, post_of, put_mid}
use borrow.Author.Tests.{leb-true, leb-false, le-leb, lt-leb, ltb-true, ltb-false}
use Rattle.decimal.specs.Digits.{width_of, decimal}
use Rattle.decimal.specs.Promises.{Laid}
use Rattle.decimal.proofs.PrintLaws.{no_room, in-room, laid-in-room, decimal-length}
use Rattle.frames.specs.Answer.{mark_of, answer_line}

-- ---- all of a slice from `at` on, lent and put back
module _ (at : ℕ) (whole : List ℕ) where
  pub rest-lent : mid_of at (length whole - at) whole ≡ drop at whole
  rest-lent = take_all (length whole - at) (drop at whole) (omega (arith, length-drop at whole))

  pub put_back : (part : List ℕ) → put_mid at (length whole - at) whole part ≡ take at whole ++ part
  put_back part =
      let none : post_of at (length whole - at) whole ≡ [] =
      drop_of_length-le (drop at whole) {i = length whole - at} (omega (arith, length-drop at whole)) in
      rw (none, append-nil)

-- ---- the line from place i on, its first number apart
module _ (numbers : List ℕ) (i : ℕ) where
  pub answer-none : length numbers ≤ i → answer_line (drop i numbers) ≡ []
  unfolding answer_line
  answer-none l = rw (drop_of_length-le numbers {i = i} l)

  pub mark-is : mark_of (drop i numbers) ≡ cond (ltb i (length numbers)) 32 10
  mark-is = (elim (ltb i (length numbers)) as (λ t. ltb i (length numbers) ≡ t → mark_of (drop i numbers) ≡ cond t 32 10) [
    | true ↦ λ e. rw (drop-cons numbers i 0 (ltb-true i (length numbers) e))
    | false ↦ λ e. rw (drop_of_length-le numbers {i = i} (ltb-false i (length numbers) e))
  ]) refl

  module _ (l : i < length numbers) where
    pub answer-next :
        answer_line (drop i numbers)
        ≡ decimal (get_or numbers i 0) ++ mark_of (drop (i + 1) numbers) ∷ answer_line (drop (i + 1) numbers)
    unfolding answer_line
    answer-next = rw (drop-cons numbers i 0 l, add-one)

    pub length-next :
        length (answer_line (drop i numbers))
        ≡ width_of (get_or numbers i 0) + suc (length (answer_line (drop (i + 1) numbers)))
    length-next = rw (answer-next, length-append, decimal-length)

-- ---- its length counted down
pub record Counting (numbers : List ℕ) (room i left : ℕ) : Type 0 where
  pub place : i ≤ length numbers
  pub less : left ≤ room
  pub same : leb (length (answer_line numbers)) room ≡ leb (length (answer_line (drop i numbers))) left

pub counting-starts : (numbers : List ℕ) (room : ℕ) → Counting numbers room 0 room
counting-starts numbers room = record { place = omega arith; less = omega arith; same = refl }

same_test : (a b c d : ℕ) → (a ≤ b → c ≤ d) → (b < a → d < c) → leb a b ≡ leb c d
same_test a b c d yes-too no-too = (elim (leb a b) as (λ t. leb a b ≡ t → t ≡ leb c d) [
  | true ↦ λ e. sym (le-leb c d (yes-too (leb-true a b e)))
  | false ↦ λ e. sym (lt-leb c d (no-too (leb-false a b e)))
]) refl

module _ (numbers : List ℕ) (room i left : ℕ) (c : Counting numbers room i left) where
  module _ (l : i < length numbers) (width : ℕ) (w : width ≡ width_of (get_or numbers i 0)) where
    pub counting-turns : width < left → Counting numbers room (i + 1) (left - (width + 1))
    counting-turns m =
        let n = length-next numbers i l in
        record {
          place = omega arith;
          less = omega (arith, c.less);
          same =
              c.same
              ∙ same_test (length (answer_line (drop i numbers))) left (length (answer_line (drop (i + 1) numbers)))
              (left - (width + 1)) (λ h. omega arith) (λ h. omega arith);
        }

    pub counting-fails : left ≤ width → false ≡ leb (length (answer_line numbers)) room
    counting-fails m =
        sym (c.same ∙ lt-leb (length (answer_line (drop i numbers))) left (omega (arith, length-next numbers i l)))

  pub counting-ends : length numbers ≤ i → true ≡ leb (length (answer_line numbers)) room
  counting-ends l = sym (c.same ∙ rw (answer-none numbers i l) (le-leb 0 left (omega arith)))

-- ---- its bytes written
pub record Writing (numbers old : List ℕ) (i at : ℕ) (now : List ℕ) : Type 0 where
  pub place : i ≤ length numbers
  pub room : length now ≡ length old
  pub enough : at + length (answer_line (drop i numbers)) ≤ length old
  pub done : answer_line numbers ≡ take at now ++ answer_line (drop i numbers)
  pub past : drop at now ≡ drop at old

pub writing-starts :
    (numbers old : List ℕ) → true ≡ leb (length (answer_line numbers)) (length old) → Writing numbers old 0 0 old
writing-starts numbers old e =
    record {
      place = omega arith;
      room = refl;
      enough = omega (arith, leb-true (length (answer_line numbers)) (length old) (sym e));
      done = refl;
      past = refl;
    }

module _ (numbers old : List ℕ) (i at : ℕ) (now : List ℕ) (w : Writing numbers old i at now) where
  module _
      (l : i < length numbers) (k : ℕ) (part : List ℕ)
      (p : Laid (decimal (get_or numbers i 0)) (drop at now) k part)
    where
      room-left : length (decimal (get_or numbers i 0)) < length (drop at now)
      room-left =
          omega (arith, w.enough, w.room, length-drop at now, length-next numbers i l, decimal-length (get_or numbers i 0))

      pub printed :
          (k ≡ length (decimal (get_or numbers i 0)))
          × (part ≡ decimal (get_or numbers i 0) ++ drop (length (decimal (get_or numbers i 0))) (drop at now))
      printed = laid-in-room (decimal (get_or numbers i 0)) (drop at now) k part p (omega (arith, room-left))

      pub next_place : at + k < length now
      next_place = omega (arith, printed.0, room-left, length-drop at now)

      written :
          (m : ℕ)
          → set (take at now ++ part) (at + k) m
          ≡ ((take at now ++ decimal (get_or numbers i 0)) ++ m ∷ []) ++ drop (at + k + 1) now
      written m =
          let d = decimal (get_or numbers i 0) in
          let size : length (take at now ++ d) ≡ at + k =
          rw (length-append, length-take-le at now (omega (arith, w.enough, w.room))) (omega (arith, printed.0)) in
          let place : at + suc (length d) ≡ at + k + 1 = omega (arith, printed.0) in
          let rest : drop (length d) (drop at now) ≡ get_or (drop at now) (length d) 0 ∷ drop (at + k + 1) now =
          drop-cons (drop at now) (length d) 0 room-left
          ∙ ap (λ (r : List ℕ). get_or (drop at now) (length d) 0 ∷ r)
          (drop-drop (suc (length d)) at now ∙ ap (λ (j : ℕ). drop j now) place) in
          rw (printed.1, rest, ← append_assoc)
          (set_at (take at now ++ d) (get_or (drop at now) (length d) 0) (drop (at + k + 1) now) m (at + k) size
          ∙ sym (append_assoc (take at now ++ d) (m ∷ []) (drop (at + k + 1) now)))

      pub writing-turns :
          (m : ℕ) → m ≡ cond (ltb (i + 1) (length numbers)) 32 10
          → Writing numbers old (i + 1) (at + k + 1) (set (take at now ++ part) (at + k) m)
      writing-turns m e =
          let d = decimal (get_or numbers i 0) in
          let head = (take at now ++ d) ++ m ∷ [] in
          let is = written m in
          let size : length head ≡ at + k + 1 =
          rw (length-append, length-append, length-take-le at now (omega (arith, w.enough, w.room)))
          (omega (arith, printed.0)) in
          let rest = answer_line (drop (i + 1) numbers) in
          let more = length-next numbers i l in
          record {
            place = omega arith;
            room =
                rw (is, length-append, size, length-drop)
                (omega (arith, next_place, w.room));
            enough = omega (arith, w.enough, printed.0, decimal-length (get_or numbers i 0));
            done =
                w.done
                ∙ rw (is, take_at head (drop (at + k + 1) now) (at + k + 1) size, answer-next numbers i l, mark-is numbers (i + 1), ← e)
                (simp append_assoc);
            past =
                rw (is, drop_at head (drop (at + k + 1) now) (at + k + 1) size)
                (later_same (at + k + 1) (omega arith));
          }
        where
          later_same : (j : ℕ) → at ≤ j → drop j now ≡ drop j old
          later_same j h =
              let n : at + (j - at) ≡ j = omega arith in
              let step : drop (j - at) (drop at now) ≡ drop (j - at) (drop at old) = ap (λ (r : List ℕ). drop (j - at) r) w.past in
              rw (drop-drop (j - at) at now, drop-drop (j - at) at old, n) at step

  -- the same for the part of the slice that was lent to the call, which is all from `at` on
  module _
      (l : i < length numbers) (k : ℕ) (part : List ℕ)
      (p : Laid (decimal (get_or numbers i 0)) (mid_of at (length now - at) now) k part)
    where
      lent : Laid (decimal (get_or numbers i 0)) (drop at now) k part
      lent = rw (rest-lent at now) at p

      pub next_fits : at + k < length now
      next_fits = next_place l k part lent

      pub next-turn :
          (m : ℕ) → m ≡ cond (ltb (i + 1) (length numbers)) 32 10
          → Writing numbers old (i + 1) (at + k + 1) (set (put_mid at (length now - at) now part) (at + k) m)
      next-turn m e = rw (put_back at now part) (writing-turns l k part lent m e)

      pub next-within : at + k < length (put_mid at (length now - at) now part)
      next-within =
          let size : length part ≡ length (drop at now) =
          rw ((printed l k part lent).1, length-append, length-drop) (omega (arith, room-left l k part lent, length-drop at now)) in
          rw (put_back at now part, length-append, size, length-take-le at now (omega (arith, w.enough, w.room)), length-drop)
          (omega (arith, next_place l k part lent))

  pub writing-ends : length numbers ≤ i → Laid (answer_line numbers) old at now
  writing-ends l =
      let all : answer_line numbers ≡ take at now = w.done ∙ rw (answer-none numbers i l, append-nil) in
      let size : length (take at now) ≡ at = length-take-le at now (omega (arith, w.enough, w.room)) in
      in-room (answer_line numbers) old at now (rw all (sym size)) (rw (all, size) (omega (arith, w.enough)))
      (rw (all, size, ← w.past) (sym (take-append-drop at now)))

pub unfit :
    (numbers old : List ℕ) → false ≡ leb (length (answer_line numbers)) (length old) → Laid (answer_line numbers) old 0 old
unfit numbers old e = no_room (answer_line numbers) old (leb-false (length (answer_line numbers)) (length old) (sym e))
