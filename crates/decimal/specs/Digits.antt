-- A number in plain decimal, and the number that digits stand for: document 01, "numbers are plain decimal below 2^64
-- without leading zeros". A digit is its byte, 48 for 0. Assumes nothing.
use Rattle.std.specs.Prelude.{ℕ, zero, suc, ◌+◌, ◌*◌, ◌-◌, ◌/◌, ◌%◌, ◌^◌, cond, List, [], ◌∷◌, ltb}

-- the last k digits of n, the most significant first: at place k, from 0, stands floor(n / 10^k) mod 10
unfoldable pub digits : ℕ → ℕ → List ℕ
digits zero n = []
digits (suc k) n = (48 + n / 10 ^ k % 10) ∷ digits k n

-- the fewest digits, from j on, that hold n; `more` of them are tried, and then one more is taken
unfoldable pub fewest : ℕ → ℕ → ℕ → ℕ
fewest zero j n = j
fewest (suc more) j n = cond (ltb n (10 ^ j)) j (fewest more (suc j) n)

-- how many digits a number below 10^20 has, so that it has no leading zero; 0 has one
abbrev pub width_of : ℕ → ℕ
width_of n = fewest 19 1 n

abbrev pub decimal : ℕ → List ℕ
decimal n = digits (width_of n) n

-- what digits stand for behind those that stand for v
unfoldable pub value_from : ℕ → List ℕ → ℕ
value_from v [] = v
value_from v (b ∷ bs) = value_from (v * 10 + (b - 48)) bs

abbrev pub value : List ℕ → ℕ
value field = value_from 0 field
