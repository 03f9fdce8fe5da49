-- The bytes of what a line of a table says: 32 is a space. Assumes nothing.
use Rattle.std.specs.Prelude.{ℕ, List, [], ◌∷◌}
use Rattle.std.specs.List.{flat_map}
use Rattle.std.specs.Fmt.{decimal}

-- each number in plain decimal, after a space
abbrev pub spaced : List ℕ → List ℕ
spaced numbers = flat_map (λ n. 32 ∷ decimal n) numbers

-- " yes"
abbrev pub yes_text : List ℕ
yes_text = 32 ∷ 121 ∷ 101 ∷ 115 ∷ []

-- " no"
abbrev pub no_text : List ℕ
no_text = 32 ∷ 110 ∷ 111 ∷ []
