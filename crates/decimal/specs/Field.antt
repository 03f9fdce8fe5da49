-- Which fields are numbers: document 01, "numbers are plain decimal below 2^64 without leading zeros". Assumes nothing.
use Rattle.std.specs.Prelude.{ℕ, ◌^◌, Bool, true, not, ◌&&◌, cond, List, [], ◌∷◌, ltb, leb, eqb, length, get_or, Option, Some, None}
use Rattle.decimal.specs.Digits.{value}

abbrev pub is_digit : ℕ → Bool
is_digit b = leb 48 b && leb b 57

unfoldable pub all_digits : List ℕ → Bool
all_digits [] = true
all_digits (b ∷ bs) = is_digit b && all_digits bs

abbrev pub is_empty : List ℕ → Bool
is_empty field = eqb (length field) 0

-- `0` is a number, `00` and `07` are not
abbrev pub leading_zero : List ℕ → Bool
leading_zero field = eqb (get_or field 0 0) 48 && ltb 1 (length field)

unfoldable pub is_number : List ℕ → Bool
is_number field = not (is_empty field) && not (leading_zero field) && all_digits field && ltb (value field) (2 ^ 64)

abbrev pub reads : List ℕ → Option ℕ
reads field = cond (is_number field) (Some (value field)) None
