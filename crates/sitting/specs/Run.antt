-- A whole sitting: bytes come in chunks of any lengths, each with some room to print into; what was not taken of a chunk comes again, at the
-- head of a later one; then the input ends. Assumes nothing.
use Rattle.std.specs.Prelude.{ℕ, ◌≤◌, List, [], ◌++◌, length, take}
use Rattle.output.specs.Room.{reply_most}
use Rattle.sitting.specs.declared.Sitting.{Sitting}
use Rattle.sitting.specs.declared.Fed.{Fed}
use Rattle.sitting.specs.Sitting.{Feeds, Closes}

-- from a sitting and its lent words on: the bytes that were taken, joined, and those that were printed, joined
pub data Sits : Sitting → List ℕ → List ℕ → List ℕ → Type 0 where
  closed :
      {s : Sitting} {tree later out printed : List ℕ} {n : ℕ} → reply_most ≤ length out
      → Closes s tree later out n printed → Sits s tree [] (take n printed)
  fed :
      {s : Sitting} {tree later chunk out printed input output : List ℕ} {r : Fed}
      → Feeds s tree later chunk out r printed → Sits r.sitting later input output
      → Sits s tree (take r.taken chunk ++ input) (take r.written printed ++ output)
