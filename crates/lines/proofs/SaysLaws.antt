-- What a line of each kind says. Assumes nothing.
use Prim.Native.Nat.{ℕ, ◌+◌, ◌≤◌, ◌<◌}
use mathlib.Core.Bool.{true, false, cond, ◌&&◌}
use mathlib.Core.List.{List, [], map}
use mathlib.Core.Path.{◌≡◌, refl, ap}
use native.Mathlib.Omega.{arith}
use lib.Dec.{eqb, ltb, eqb-suc-zero}
use lib.ListN.{length, take, drop}
use borrow.Author.Tests.{ltb-true, ltb-false, le-leb, lt-leb}
use Rattle.std.specs.Prelude.{Some, None}
use Rattle.decimal.specs.Digits.{value}
use Rattle.lines.specs.declared.Line.TheVariants.{Unreadable}
use Rattle.fields.specs.Pieces.{before}
use Rattle.fields.specs.Behind.{behind, all_numbers, numbered}
use Rattle.fields.proofs.PiecesLaws.{before-fits, before_head, fields-first, behind-none, behind-next}
use Rattle.lines.specs.Says.{Kind, kinds, said_of, said_by, line_says}

-- ---- a kind and the fields behind its word
module _ (k : Kind) (fields : List (List ℕ)) where
  pub unsaid : None ≡ numbered k.count fields → Unreadable ≡ said_of k fields
  unfolding numbered said_of
  unsaid = (elim (eqb (length fields) k.count && all_numbers fields) as (λ t. None ≡ cond t (Some (map value fields)) None → Unreadable ≡ cond t (k.says (map value fields)) Unreadable) [
    | true ↦ λ e. cc
    | false ↦ λ e. refl
  ])

  pub said : (found : List ℕ) → Some found ≡ numbered k.count fields → k.says found ≡ said_of k fields
  unfolding numbered said_of
  said found = (elim (eqb (length fields) k.count && all_numbers fields) as (λ t. Some found ≡ cond t (Some (map value fields)) None → k.says found ≡ cond t (k.says (map value fields)) Unreadable) [
    | true ↦ λ e.
        let these : found ≡ map value fields = cc in
        ap k.says these
    | false ↦ λ e. cc
  ])

-- a word that stands alone
pub said-alone :
    (line : List ℕ) (from : ℕ) (k : Kind) → k.count ≡ 0
    → cond (ltb from (length line)) Unreadable (k.says []) ≡ said_of k (behind (drop from line))
unfolding said_of all_numbers
said-alone line from k e = (elim (ltb from (length line)) as (λ t. ltb from (length line) ≡ t → cond t Unreadable (k.says []) ≡ said_of k (behind (drop from line))) [
  | true ↦ λ t.
      let more = behind (drop (from + 1 + length (before 32 (drop (from + 1) line))) line) in
      rw (behind-next line from (ltb-true _ _ t), e, eqb-suc-zero (length more))
  | false ↦ λ t. rw (behind-none line from (ltb-false _ _ t), e)
]) refl

-- ---- a whole line
module _ (line : List ℕ) where
  pub over-long : 128 < length line → Unreadable ≡ line_says line
  unfolding line_says
  over-long l = rw (lt-leb (length line) 128 l)

  -- its word ends at `end`
  module _ (end : ℕ) (e : end ≡ 0 + length (before 32 line)) where
    pub word_fits : end ≤ length line
    word_fits = omega (arith, before-fits 32 line)

    pub line-said : length line ≤ 128 → line_says line ≡ said_by kinds (take end line) (behind (drop end line))
    unfolding line_says
    line-said l =
        let n : end ≡ length (before 32 line) = omega arith in
        rw (le-leb (length line) 128 l, fields-first line, n, before_head 32 line)
