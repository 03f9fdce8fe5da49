-- Bytes taken into the buffer: what is kept of a line. Assumes nothing.
use Prim.Native.Nat.{ℕ, ◌+◌, ◌-◌, ◌≤◌, ◌<◌, min, max}
use mathlib.Core.Bool.{Bool, true, false, cond}
use mathlib.Core.List.{List, ◌++◌, append_assoc}
use mathlib.Core.Path.{◌≡◌, refl, sym, ap, ◌∙◌}
use native.Mathlib.Omega.{arith}
use lib.Dec.{leb, ltb}
use mir.Val.{bool_byte}
use lib.ListN.{length, take, drop, length-append, length-take, length-drop}
use lib.Seq.{drop-drop, length-take-le, take_all, take-take, take-append-add}
use borrow.Rule.Slice.PartMut.{put_mid}
use borrow.Author.Tests.{leb-true, leb-false, ltb-true, ltb-false}
use Rattle.fields.specs.Pieces.{before}
use Rattle.frames.specs.declared.Taken.{Taken}
use Rattle.frames.specs.Framing.{has_end, kept_of, Takes}
use Rattle.fields.proofs.PiecesLaws.{before-fits, before_head}

-- ---- what is kept
pub take_min : (a b : ℕ) (l : List ℕ) → take a (take b l) ≡ take (min a b) l
take_min a b l = (elim (leb a b) as (λ t. leb a b ≡ t → take a (take b l) ≡ take (min a b) l) [
  | true ↦ λ e.
      let h = leb-true a b e in
      let m : min a b ≡ a = omega arith in
      rw m (take-take a b l h)
  | false ↦ λ e.
      let h = leb-false a b e in
      let m : min a b ≡ b = omega arith in
      rw m (take_all a (take b l) (omega (arith, length-take b l)))
]) refl

take-held : (held : ℕ) (buffer : List ℕ) → take held buffer ≡ take (min held (length buffer)) buffer
take-held held buffer =
    let all = take_all (length buffer) buffer (omega arith) in
    ap (λ (l : List ℕ). take held l) (sym all) ∙ take_min held (length buffer) buffer

-- a flag as a number
pub one-of : (t : Bool) → bool_byte t ≡ cond t 1 0
one-of true = refl
one-of false = refl

module _
    (buffer : List ℕ) (held : ℕ) (rest : List ℕ) (size old more : ℕ)
    (e : size ≡ 0 + length (before 10 rest))
    (o : old ≡ min held (length buffer))
    (m : more ≡ min size (length buffer - old))
  where
    pub enough-left : more ≤ length rest
    enough-left = omega (arith, before-fits 10 rest)

    kept-is : kept_of (length buffer) (take held buffer) rest ≡ take old buffer ++ take more rest
    kept-is =
        let begun : length (take old buffer) ≡ old = length-take-le old buffer (omega arith) in
        let all : length buffer ≡ length (take old buffer) + (length buffer - old) = omega arith in
        let n : size ≡ length (before 10 rest) = omega arith in
        let piece : before 10 rest ≡ take size rest = sym (rw n (before_head 10 rest)) in
        let less : more ≡ min (length buffer - old) size = omega arith in
        rw (take-held held buffer, ← o, piece)
        (ap (λ (k : ℕ). take k (take old buffer ++ take size rest)) all
        ∙ take-append-add (take old buffer) (take size rest) (length buffer - old)
        ∙ rw (take_min (length buffer - old) size rest, ← less))

    kept-length : old + more ≡ length (kept_of (length buffer) (take held buffer) rest)
    kept-length =
        rw (
          kept-is,
          length-append,
          length-take-le old buffer (omega arith),
          length-take-le more rest enough-left,
        )

    pub next-within :
        (chunk : List ℕ) (from : ℕ) → rest ≡ drop from chunk → (one : ℕ) → one ≡ cond (ltb size (length rest)) 1 0
        → from + size + one ≤ max from (length chunk)
    next-within chunk from r one b = (elim (ltb size (length rest)) as (λ t. ltb size (length rest) ≡ t → one ≡ cond t 1 0 → from + size + one ≤ max from (length chunk)) [
      | true ↦ λ t w. omega (arith, ltb-true size (length rest) t, ap length r, length-drop from chunk)
      | false ↦ λ t w. omega (arith, before-fits 10 rest, ap length r, length-drop from chunk)
    ]) refl b

    pub takes-line :
        (chunk : List ℕ) (from : ℕ) → rest ≡ drop from chunk → (copied : List ℕ) → copied ≡ take more rest → (one : ℕ)
        → one ≡ cond (ltb size (length rest)) 1 0
        → Takes buffer held chunk from (record { next = from + size + one; held = old + more; ended = ltb size (length rest) })
        (put_mid old (old + more - old) buffer copied)
    takes-line chunk from r copied is one b =
        let n : old + more - old ≡ more = omega arith in
        let z : size ≡ length (before 10 rest) = omega arith in
        record {
          next = rw (← r, ← z) (omega (arith, b));
          ended = rw (← r, ← z);
          held = rw (← r) kept-length;
          lent = rw (← r, kept-is, n, is, drop-drop more old buffer) (sym (append_assoc (take old buffer) (take more rest) (drop (old + more) buffer)));
        }

-- ---- what a caller's loop needs to know
module _ (buffer : List ℕ) (held : ℕ) (chunk : List ℕ) (from : ℕ) (r : Taken) (after : List ℕ) (t : Takes buffer held chunk from r after) where
  pub takes-within : r.held ≤ length buffer
  takes-within =
      omega (arith, t.held, length-take (length buffer) (take held buffer ++ before 10 (drop from chunk)))

  pub takes-room : length after ≡ length buffer
  takes-room = rw (t.lent, length-append, length-drop r.held buffer) (omega (arith, t.held, takes-within))

  pub takes-some : from < length chunk → (from < r.next) × (r.next ≤ length chunk)
  takes-some l = (elim (has_end (drop from chunk)) as (λ b. has_end (drop from chunk) ≡ b → r.next ≡ from + (length (before 10 (drop from chunk)) + cond b 1 0) → (from < r.next) × (r.next ≤ length chunk)) [
    | true ↦ λ e n.
        let m = ltb-true (length (before 10 (drop from chunk))) (length (drop from chunk)) e in
        let size = length-drop from chunk in
        (omega arith, omega arith)
    | false ↦ λ e n.
        let m = ltb-false (length (before 10 (drop from chunk))) (length (drop from chunk)) e in
        let fit = before-fits 10 (drop from chunk) in
        let size = length-drop from chunk in
        (omega arith, omega arith)
  ]) refl t.next
