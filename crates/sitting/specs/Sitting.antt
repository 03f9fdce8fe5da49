-- What is promised of a sitting, chunk by chunk: how far a chunk is taken, what is printed and what is held. Assumes nothing.
use Rattle.std.specs.Prelude.{ℕ, ◌-◌, List, [], ◌++◌, ◌≡◌, length, take, drop, replicate}
use Rattle.decimal.specs.Promises.{Laid}
use Rattle.frames.specs.Framing.{ended_in, begun_by, last_of}
use Rattle.steps.specs.Step.{Desk}
use Rattle.output.specs.Output.{State, replies_to, behind_all, shut}
use Rattle.output.specs.Room.{piece_taken, held_of}
use Rattle.sitting.specs.declared.Sitting.{Sitting}
use Rattle.sitting.specs.declared.Fed.{Fed}

-- the desk, and what is held of an open line with zeros behind it
abbrev pub sitting_of : Desk → List ℕ → Sitting
sitting_of desk begun =
    record {
      desk = desk;
      line = held_of begun ++ replicate (129 - length (held_of begun)) 0;
      held = length (held_of begun);
    }

-- before the first byte
abbrev pub begins : Sitting
begins = sitting_of shut []

-- and what it shows: the desk with its lent words, and what has come of the open line
abbrev pub state_of : Sitting → List ℕ → State
state_of s tree = record { desk = s.desk; tree = tree }

abbrev pub open_line : Sitting → List ℕ
open_line s = take s.held s.line

-- the lines that end in the first n bytes of a chunk
abbrev pub heard_in : Sitting → List ℕ → ℕ → List (List ℕ)
heard_in s chunk n = ended_in (open_line s) (take n chunk)

-- ---- the promises
-- The lines that end in the bytes taken are answered one after another, and what has come of the next one is held. Bytes past those
-- printed are as they were.
pub record Feeds (s : Sitting) (tree later chunk out : List ℕ) (r : Fed) (printed : List ℕ) : Type 0 where
  pub taken : r.taken ≡ piece_taken (state_of s tree) (open_line s) (length out) chunk
  pub sitting :
      r.sitting
      ≡ sitting_of (behind_all (state_of s tree) (heard_in s chunk r.taken)).desk
      (begun_by (open_line s) (take r.taken chunk))
  pub lent : later ≡ (behind_all (state_of s tree) (heard_in s chunk r.taken)).tree
  pub written : r.written ≡ length (replies_to (state_of s tree) (heard_in s chunk r.taken))
  pub bytes : printed ≡ replies_to (state_of s tree) (heard_in s chunk r.taken) ++ drop r.written out

-- At the end of the input what has begun is a line, if anything has.
pub record Closes (s : Sitting) (tree later out : List ℕ) (n : ℕ) (printed : List ℕ) : Type 0 where
  pub lent : later ≡ (behind_all (state_of s tree) (last_of (open_line s))).tree
  pub bytes : Laid (replies_to (state_of s tree) (last_of (open_line s))) out n printed
