-- How far a chunk is taken: not at all without room, up to a line's end with its reply, or whole. Assumes nothing.
use Prim.Native.Nat.{ℕ, suc, ◌+◌, ◌-◌, ◌≤◌, ◌<◌}
use mathlib.Core.Bool.{true, false, cond}
use mathlib.Core.List.{List, [], ◌∷◌, ◌++◌, append_assoc, append-nil}
use mathlib.Core.Path.{◌≡◌, refl}
use native.Mathlib.Omega.{arith}
use lib.Dec.{leb, eqb}
use lib.ListN.{length}
use borrow.Author.Tests.{le-leb, lt-leb}
use Rattle.lines.proofs.LinesLaws.{Free, free-head}
use Rattle.output.specs.Output.{State, reply_to, behind_line}
use Rattle.output.specs.Room.{reply_most, piece_taken}

pub taken_none : (s : State) (begun : List ℕ) (room : ℕ) → piece_taken s begun room [] ≡ 0
unfolding piece_taken
taken_none s begun room = refl

pub taken-stops : (s : State) (begun : List ℕ) (room : ℕ) (bs : List ℕ) → room < reply_most → piece_taken s begun room bs ≡ 0
unfolding piece_taken
taken-stops s begun room [] l = refl
taken-stops s begun room (b ∷ bs) l = rw (lt-leb reply_most room l)

module _ (s : State) (room : ℕ) (l : reply_most ≤ room) where
  pub taken-ended :
      (begun xs ys : List ℕ) → Free xs
      → piece_taken s begun room (xs ++ 10 ∷ ys)
      ≡ suc (length xs) + piece_taken (behind_line s (begun ++ xs)) [] (room - length (reply_to s (begun ++ xs))) ys
  unfolding piece_taken
  taken-ended begun [] ys f = rw (le-leb reply_most room l, append-nil) (omega arith)
  taken-ended begun (x ∷ xs) ys f =
      let h = free-head x xs f in
      rw (le-leb reply_most room l, h.other, taken-ended (begun ++ x ∷ []) xs ys h.rest, append_assoc) (omega arith)

  pub taken-open : (begun xs : List ℕ) → Free xs → piece_taken s begun room xs ≡ length xs
  unfolding piece_taken
  taken-open begun [] f = refl
  taken-open begun (x ∷ xs) f =
      let h = free-head x xs f in
      rw (le-leb reply_most room l, h.other, taken-open (begun ++ x ∷ []) xs h.rest)

-- ---- what a caller's loop needs to know
pub taken-within : (s : State) (begun : List ℕ) (room : ℕ) (bs : List ℕ) → piece_taken s begun room bs ≤ length bs
unfolding piece_taken
taken-within s begun room [] = omega arith
taken-within s begun room (b ∷ bs) = (elim (leb reply_most room) as (λ t. cond t (suc (cond (eqb b 10) (piece_taken (behind_line s begun) [] (room - length (reply_to s begun)) bs) (piece_taken s (begun ++ b ∷ []) room bs))) 0 ≤ suc (length bs)) [
  | true ↦ (elim (eqb b 10) as (λ t. suc (cond t (piece_taken (behind_line s begun) [] (room - length (reply_to s begun)) bs) (piece_taken s (begun ++ b ∷ []) room bs)) ≤ suc (length bs)) [
    | true ↦ omega (arith, taken-within (behind_line s begun) [] (room - length (reply_to s begun)) bs)
    | false ↦ omega (arith, taken-within s (begun ++ b ∷ []) room bs)
  ])
  | false ↦ omega arith
])

pub taken-some :
    (s : State) (begun : List ℕ) (room : ℕ) (bs : List ℕ) → reply_most ≤ room → 0 < length bs → 0 < piece_taken s begun room bs
unfolding piece_taken
taken-some s begun room [] l m = absurd (omega arith)
taken-some s begun room (b ∷ bs) l m = rw (le-leb reply_most room l) (omega arith)
