-- The fields behind one that has ended, read as numbers. Assumes nothing.
use Rattle.std.specs.Prelude.{ℕ, Bool, true, cond, ◌&&◌, List, [], ◌∷◌, Option, Some, None, map, ◌≡◌, eqb, length}
use Rattle.decimal.specs.Digits.{value}
use Rattle.decimal.specs.Field.{is_number}
use Rattle.fields.specs.Pieces.{fields_of}

-- the fields behind one that has ended: none where the line ends, and else those behind the space
unfoldable pub behind : List ℕ → List (List ℕ)
behind [] = []
behind (b ∷ bs) = fields_of bs

-- "numbers are plain decimal below 2^64 without leading zeros"
unfoldable pub all_numbers : List (List ℕ) → Bool
all_numbers [] = true
all_numbers (f ∷ fs) = is_number f && all_numbers fs

-- the fields up to the first that is no number, each into its place
unfoldable pub spelled : List (List ℕ) → List ℕ → List ℕ
spelled [] places = places
spelled (f ∷ fs) [] = []
spelled (f ∷ fs) (p ∷ places) = cond (is_number f) (value f ∷ spelled fs places) (p ∷ places)

-- whether the fields are numbers, just as many as there are places; and what was written
pub record Numbered (fields : List (List ℕ)) (places : List ℕ) (answer : Bool) (after : List ℕ) : Type 0 where
  pub told : answer ≡ (eqb (length fields) (length places) && all_numbers fields)
  pub these : after ≡ spelled fields places

-- these fields as numbers, where each is one and there are just `count` of them
unfoldable pub numbered : ℕ → List (List ℕ) → Option (List ℕ)
numbered count fields = cond (eqb (length fields) count && all_numbers fields) (Some (map value fields)) None
