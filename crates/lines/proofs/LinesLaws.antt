-- The lines of an input: document 01, "A line ends at byte 10, which is not counted in its length", "the last line may lack its line
-- end". These laws are all there is to know of them: bytes are nothing, or begin with a line that ends, or are one that does not.
-- Assumes nothing.
use Prim.Native.Nat.{ℕ}
use mathlib.Core.Bool.{true, false, cond}
use mathlib.Core.List.{List, [], ◌∷◌, ◌++◌}
use mathlib.Core.Path.{◌≡◌, refl}
use native.Mathlib.Omega.{arith}
use lib.Dec.{eqb}
use Rattle.fields.specs.Pieces.{pieces, before}
use Rattle.lines.specs.Says.{lines_of}

-- no byte 10 is among these
abbrev pub Free : List ℕ → Type 0
Free bytes = before 10 bytes ≡ bytes

pub record FreeHead (b : ℕ) (bs : List ℕ) : Type 0 where
  pub other : eqb b 10 ≡ false
  pub rest : Free bs

pub free-head : (b : ℕ) (bs : List ℕ) → Free (b ∷ bs) → FreeHead b bs
unfolding before
free-head b bs = (elim (eqb b 10) as (λ t. eqb b 10 ≡ t → cond t [] (b ∷ before 10 bs) ≡ b ∷ bs → FreeHead b bs) [
  | true ↦ λ e f. absurd (nothing f)
  | false ↦ λ e f. record { other = e; rest = cc }
]) refl
  where
    nothing : [] ≡ b ∷ bs → ⊥
    nothing e =
        let no : ◌≡◌ {A = ℕ} 0 1 = cc in
        omega arith

-- nothing is no line
pub no_line : lines_of [] ≡ []
unfolding pieces
no_line = refl

-- a line that ends, which may be empty
pub lines-ended : (xs bs : List ℕ) → Free xs → lines_of (xs ++ 10 ∷ bs) ≡ xs ∷ lines_of bs
unfolding pieces
lines-ended [] bs f = refl
lines-ended (a ∷ xs) bs f =
    let h = free-head a xs f in
    rw (h.other, lines-ended xs bs h.rest)

-- the last line, without its end
pub last_line : (b : ℕ) (bs : List ℕ) → Free (b ∷ bs) → lines_of (b ∷ bs) ≡ (b ∷ bs) ∷ []
unfolding pieces
last_line b [] f = rw (free-head b [] f).other
last_line b (c ∷ bs) f =
    let h = free-head b (c ∷ bs) f in
    rw (h.other, last_line c bs h.rest)
