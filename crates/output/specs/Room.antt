-- How far a chunk of bytes is taken, and what is held of a line that is open. Assumes nothing.
use Rattle.std.specs.Prelude.{ℕ, suc, ◌-◌, cond, List, [], ◌∷◌, ◌++◌, leb, eqb, length, take}
use Rattle.output.specs.Output.{State, reply_to, behind_line}

-- no reply is longer: 0 and five numbers of 20 digits, with a byte behind each
abbrev pub reply_most : ℕ
reply_most = 107

-- Bytes are taken one by one while the room holds one more reply; `begun` has come of the line. A line that ends takes its reply's
-- bytes of the room.
unfoldable pub piece_taken : State → List ℕ → ℕ → List ℕ → ℕ
piece_taken s begun room [] = 0
piece_taken s begun room (b ∷ bs) =
    cond (leb reply_most room)
    (suc
    (cond (eqb b 10)
    (piece_taken (behind_line s begun) [] (room - length (reply_to s begun)) bs)
    (piece_taken s (begun ++ b ∷ []) room bs)))
    0

-- what is held of an open line: all of it, or one byte more than a line may have
abbrev pub held_of : List ℕ → List ℕ
held_of begun = take 129 begun
