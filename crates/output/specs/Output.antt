-- What the desk prints for an input: document 01, "The desk program reads lines and plays both sides", "Input, then whole
-- output". Assumes nothing.
use Rattle.std.specs.Prelude.{ℕ, None, List, [], ◌∷◌, ◌++◌, replicate}
use Rattle.lines.specs.Says.{lines_of, line_says}
use Rattle.steps.specs.Step.{Desk, LineLeft, step_of}
use Rattle.replies.specs.Reply.{bytes_of}

-- the desk between two lines, and the words that are lent to it
pub record State : Type 0 where
  pub desk : Desk
  pub tree : List ℕ

-- a line: what is printed for it, and the state behind it
abbrev pub left_by_line : State → List ℕ → LineLeft
left_by_line s line = step_of s.desk (line_says line) s.tree

abbrev pub reply_to : State → List ℕ → List ℕ
reply_to s line = bytes_of (left_by_line s line).turn.reply

abbrev pub behind_line : State → List ℕ → State
behind_line s line = record { desk = (left_by_line s line).turn.desk; tree = (left_by_line s line).tree }

-- lines, one after another
unfoldable pub replies_to : State → List (List ℕ) → List ℕ
replies_to s [] = []
replies_to s (line ∷ lines) = reply_to s line ++ replies_to (behind_line s line) lines

unfoldable pub behind_all : State → List (List ℕ) → State
behind_all s [] = s
behind_all s (line ∷ lines) = behind_all (behind_line s line) lines

-- an input: its lines, each answered in its turn. "A line ends at byte 10", "the last line may lack its line end"; nothing behind the
-- last byte 10 is no line.
abbrev pub output_of : State → List ℕ → List ℕ
output_of s input = replies_to s (lines_of input)

-- the desk before the first line, with 8,192 words lent
abbrev pub shut : Desk
shut = None

abbrev pub opened : State
opened = record { desk = shut; tree = replicate 8192 0 }

-- "Input, then whole output"
abbrev pub whole_output : List ℕ → List ℕ
whole_output input = output_of opened input
