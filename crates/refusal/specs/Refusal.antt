-- The refusal numbers and their order: document 01, "Refusal numbers". Assumes nothing.
use Rattle.std.specs.Prelude.{ℕ, zero, suc, Bool, cond, List, [], ◌∷◌}

-- A refusal of a call: its number, and whether it is given. A call's table has them in the order in which they are
-- checked.
pub record Refusal : Type 0 where
  pub number : ℕ
  pub given : Bool

-- a row of a table
abbrev pub row : ℕ → Bool → Refusal
row n b = record { number = n; given = b }

-- the number of the first that is given; 0 where none is
unfoldable pub first_given : List Refusal → ℕ
first_given [] = 0
first_given (x ∷ xs) = cond x.given x.number (first_given xs)

-- "each where it applies": the first of two refusals, 0 for none
abbrev pub or_else : ℕ → ℕ → ℕ
or_else zero n = n
or_else (suc m) n = suc m

-- "card and lent slices are as before": what stands after a call with this refusal, 0 for none
abbrev pub afterwards : {A : Type 0} → ℕ → A → A → A
afterwards zero done before = done
afterwards (suc n) done before = before
