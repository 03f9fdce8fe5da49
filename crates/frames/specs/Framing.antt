-- Lines cut out of bytes as they come: document 01, "A line ends at byte 10, which is not counted in its length", "the last
-- line may lack its line end". Assumes nothing.
use Rattle.std.specs.Prelude.{ℕ, ◌+◌, Bool, cond, List, [], ◌∷◌, ◌++◌, ◌≡◌, ltb, eqb, length, take, drop}
use Rattle.frames.specs.declared.Taken.{Taken}
use Rattle.fields.specs.Pieces.{before}

-- the lines that end in these bytes, where `begun` has come of the first one before
unfoldable pub ended_in : List ℕ → List ℕ → List (List ℕ)
ended_in begun [] = []
ended_in begun (b ∷ bs) = cond (eqb b 10) (begun ∷ ended_in [] bs) (ended_in (begun ++ b ∷ []) bs)

-- and what has come of the next one behind them
unfoldable pub begun_by : List ℕ → List ℕ → List ℕ
begun_by begun [] = begun
begun_by begun (b ∷ bs) = cond (eqb b 10) (begun_by [] bs) (begun_by (begun ++ b ∷ []) bs)

-- at the end of the input, what has begun is a line only if it is not empty
abbrev pub last_of : List ℕ → List (List ℕ)
last_of [] = []
last_of (b ∷ bs) = (b ∷ bs) ∷ []

-- whether there is a byte 10 behind what stands before the first one
abbrev pub has_end : List ℕ → Bool
has_end bytes = ltb (length (before 10 bytes)) (length bytes)

-- how many bytes a line takes up, its end too where there is one
abbrev pub taken_of : List ℕ → ℕ
taken_of bytes = length (before 10 bytes) + cond (has_end bytes) 1 0

-- what is kept of an open line, of which `held` has been kept, when these bytes come: no more than there is room for
abbrev pub kept_of : ℕ → List ℕ → List ℕ → List ℕ
kept_of room held bytes = take room (held ++ before 10 bytes)

-- The bytes of `chunk` from `from` on are taken up to the end of a line, or all of them. The line so far stands at the head of
-- the buffer, as much of it as there is room for; bytes past it stay.
pub record Takes (buffer : List ℕ) (old : ℕ) (chunk : List ℕ) (from : ℕ) (r : Taken) (after : List ℕ) : Type 0 where
  pub next : r.next ≡ from + taken_of (drop from chunk)
  pub ended : r.ended ≡ has_end (drop from chunk)
  pub held : r.held ≡ length (kept_of (length buffer) (take old buffer) (drop from chunk))
  pub lent : after ≡ kept_of (length buffer) (take old buffer) (drop from chunk) ++ drop r.held buffer
