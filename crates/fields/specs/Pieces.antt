-- Bytes parted at a byte: document 01, "Fields are parted by one space". Assumes nothing.
use Rattle.std.specs.Prelude.{ℕ, Bool, true, false, cond, ◌&&◌, List, [], ◌∷◌, eqb}

-- a byte put before the first piece, or into a new one where there is none
abbrev pub onto : ℕ → List (List ℕ) → List (List ℕ)
onto b [] = (b ∷ []) ∷ []
onto b (p ∷ ps) = (b ∷ p) ∷ ps

-- the pieces between the bytes `at`; `last` is what the end of the bytes gives
unfoldable pub pieces : ℕ → List (List ℕ) → List ℕ → List (List ℕ)
pieces at last [] = last
pieces at last (b ∷ bs) = cond (eqb b at) ([] ∷ pieces at last bs) (onto b (pieces at last bs))

-- the fields of a line: what stands behind the last space is a field, even if it is empty
abbrev pub fields_of : List ℕ → List (List ℕ)
fields_of = pieces 32 ([] ∷ [])

-- what stands before the first byte `at`, or all where there is none
unfoldable pub before : ℕ → List ℕ → List ℕ
before at [] = []
before at (b ∷ bs) = cond (eqb b at) [] (b ∷ before at bs)

-- equal byte for byte
unfoldable pub same_bytes : List ℕ → List ℕ → Bool
same_bytes [] [] = true
same_bytes [] (c ∷ cs) = false
same_bytes (b ∷ bs) [] = false
same_bytes (b ∷ bs) (c ∷ cs) = eqb b c && same_bytes bs cs
