-- Bytes parted at a byte: the first piece, the pieces behind it, and bytes compared. Assumes nothing.
use Prim.Native.Nat.{ℕ, suc, ◌+◌, ◌≤◌, ◌<◌}
use mathlib.Core.Bool.{true, false, cond, ◌&&◌, not}
use mathlib.Core.List.{List, [], ◌∷◌}
use mathlib.Core.Path.{◌≡◌, refl, sym, ap, ◌∙◌}
use native.Mathlib.Omega.{arith}
use native.Mathlib.Numerals.{add-one}
use lib.Dec.{eqb, ltb}
use lib.ListN.{length, take, drop, length-drop, drop_of_length-le}
use lib.Pointwise.{pointwise}
use lib.Seq.{drop-cons, drop-drop, take_all}
use Rattle.std.specs.Prelude.{◌==◌, nat_eq, position, unwrap_or, Option, Some, None}
use Rattle.std.specs.Slice.{IsGetRangeResult}
use Rattle.std.proofs.Common.{Bor, inl, inr}
use Rattle.std.specs.List.{position_or_len}
use borrow.Author.Tests.{ltb-false}
use Rattle.fields.specs.Pieces.{onto, pieces, fields_of, before, same_bytes}
use Rattle.fields.specs.Behind.{behind}

-- ---- what `get` gives, or nothing, is what stands from `from` on
rest-got :
    (bytes : List ℕ) (from : ℕ) (got : Option (Bor (List ℕ))) (none : Bor (List ℕ)) → none.now ≡ []
    → IsGetRangeResult bytes from (length bytes) got → (unwrap_or got none).now ≡ drop from bytes
rest-got bytes from None none e p = elim p.0 [
  | inl l ↦ e ∙ sym (drop_of_length-le bytes {i = from} (omega arith))
  | inr l ↦ absurd (omega arith)
]
rest-got bytes from (Some part) none e p =
    p.0.2 ∙ take_all _ (drop from bytes) (omega (arith, length-drop from bytes))

pub rest-of :
    (bytes : List ℕ) (from : ℕ) (got : Option (Bor (List ℕ))) (none rest : Bor (List ℕ))
    → IsGetRangeResult bytes from (length bytes) got → rest ≡ unwrap_or got none → none.now ≡ [] → rest.now ≡ drop from bytes
rest-of bytes from got none rest p r e = ap (λ (b : Bor (List ℕ)). b.now) r ∙ rest-got bytes from got none e p

-- ---- what stands before the first byte `at`
module _ (at : ℕ) where
  pub before-fits : (bs : List ℕ) → length (before at bs) ≤ length bs
  unfolding before
  before-fits [] = omega arith
  before-fits (b ∷ bs) = (elim (eqb b at) as (λ t. length (cond t [] (b ∷ before at bs)) ≤ suc (length bs)) [
    | true ↦ omega arith
    | false ↦ omega (arith, before-fits bs)
  ])

  pub before_head : (bs : List ℕ) → take (length (before at bs)) bs ≡ before at bs
  unfolding before
  before_head [] = refl
  before_head (b ∷ bs) = (elim (eqb b at) as (λ t. take (length (cond t [] (b ∷ before at bs))) (b ∷ bs) ≡ cond t [] (b ∷ before at bs)) [
    | true ↦ refl
    | false ↦ ap (λ (l : List ℕ). b ∷ l) (before_head bs)
  ])

  -- the library's words for where it ends
  before-counted : (bs : List ℕ) → position_or_len (λ b. b == at) bs ≡ length (before at bs)
  unfolding before
  before-counted [] = refl
  before-counted (b ∷ bs) = (elim (eqb b at) as (λ t. cond (not t) (1 + position_or_len (λ b. b == at) bs) 0 ≡ length (cond t [] (b ∷ before at bs))) [
    | true ↦ refl
    | false ↦ omega (arith, before-counted bs)
  ])

  pub before-found : (bs : List ℕ) → unwrap_or (position (λ b. b == at) bs) (length bs) ≡ length (before at bs)
  before-found bs = rw (before-counted bs) ((elim (ltb (length (before at bs)) (length bs)) as (λ t. ltb (length (before at bs)) (length bs) ≡ t → unwrap_or (cond t (Some (length (before at bs))) None) (length bs) ≡ length (before at bs)) [
    | true ↦ λ e. refl
    | false ↦ λ e. omega (arith, before-fits bs, ltb-false (length (before at bs)) (length bs) e)
  ]) refl)

-- ---- the fields of a line, the first apart
pub fields-first : (bs : List ℕ) → fields_of bs ≡ before 32 bs ∷ behind (drop (length (before 32 bs)) bs)
unfolding pieces before behind
fields-first [] = refl
fields-first (b ∷ bs) = (elim (eqb b 32) as (λ t. cond t ([] ∷ fields_of bs) (onto b (fields_of bs)) ≡ cond t [] (b ∷ before 32 bs) ∷ behind (drop (length (cond t [] (b ∷ before 32 bs))) (b ∷ bs))) [
  | true ↦ refl
  | false ↦ ap (onto b) (fields-first bs)
])

module _ (line : List ℕ) (i : ℕ) where
  pub behind-none : length line ≤ i → behind (drop i line) ≡ []
  unfolding behind
  behind-none l = rw (drop_of_length-le line {i = i} l)

  pub behind-next :
      i < length line
      → behind (drop i line)
      ≡ before 32 (drop (i + 1) line) ∷ behind (drop (i + 1 + length (before 32 (drop (i + 1) line))) line)
  unfolding behind
  behind-next l =
      rw (
        drop-cons line i 0 l,
        ← add-one i,
        fields-first (drop (i + 1) line),
        drop-drop (length (before 32 (drop (i + 1) line))) (i + 1) line,
      )

-- ---- bytes compared
pub same-pointwise : (xs ys : List ℕ) → pointwise nat_eq xs ys ≡ same_bytes xs ys
unfolding same_bytes
same-pointwise [] [] = refl
same-pointwise [] (y ∷ ys) = refl
same-pointwise (x ∷ xs) [] = refl
same-pointwise (x ∷ xs) (y ∷ ys) = ap (λ b. nat_eq x y && b) (same-pointwise xs ys)
