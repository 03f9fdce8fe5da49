-- What a function promises that writes some bytes into a lent slice, for every slice. Assumes nothing.
use Rattle.std.specs.Prelude.{ℕ, Bool, cond, List, ◌++◌, ◌≡◌, leb, length, drop}

abbrev pub has_room : List ℕ → List ℕ → Bool
has_room bytes before = leb (length bytes) (length before)

-- The bytes at the head of the slice and how many they are, what is past them as it was; or, where there is no room, 0 and
-- every byte as it was.
pub record Laid (bytes before : List ℕ) (count : ℕ) (after : List ℕ) : Type 0 where
  pub counted : count ≡ cond (has_room bytes before) (length bytes) 0
  pub lent : after ≡ cond (has_room bytes before) (bytes ++ drop (length bytes) before) before
