-- What the desk prints for a line: document 01, "prints `?`", or the numbers of an answer. Assumes nothing.
use Rattle.std.specs.Prelude.{ℕ, List, ◌≡◌, Option, Some, None}
use Rattle.decimal.specs.Promises.{Laid}
use Rattle.lines.specs.Says.{line_says}
use Rattle.answers.specs.declared.Answer.{Answer}
use Rattle.frames.specs.Answer.{answer_line, unreadable_line}
use Rattle.said.specs.Said.{numbers_of}
use Rattle.steps.specs.Step.{Desk, step_of}
use Rattle.replies.specs.declared.Printed.{Printed}

-- "prints `?`", or the answer's numbers
abbrev pub bytes_of : Option Answer → List ℕ
bytes_of None = unreadable_line
bytes_of (Some answer) = answer_line (numbers_of answer)

-- the desk behind a line, and how many bytes were printed
abbrev pub printed_of : Desk → ℕ → Printed
printed_of desk bytes = record { desk = desk; bytes = bytes }

-- the promise for a line of bytes: the desk and every lent word as the step leaves them, and every byte that is printed
pub record Prints (desk : Desk) (line tree later out printed : List ℕ) (r : Printed) : Type 0 where
  pub state : r.desk ≡ (step_of desk (line_says line) tree).turn.desk
  pub lent : later ≡ (step_of desk (line_says line) tree).tree
  pub bytes : Laid (bytes_of (step_of desk (line_says line) tree).turn.reply) out r.bytes printed
