-- P1 to P9 on whole bytes: the paper's input, with its line ends, gives the paper's whole output. Assumes nothing.
use Prim.Native.Nat.{ℕ}
use mathlib.Core.List.{List, [], ◌∷◌, map}
use mathlib.Core.Path.{◌≡◌, refl, ap, ◌∙◌}
use Rattle.fields.specs.Pieces.{pieces}
use Rattle.lines.specs.Says.{lines_of}
use Rattle.steps.specs.Step.{LineLeft}
use Rattle.replies.specs.Reply.{bytes_of}
use Rattle.output.specs.Output.{replies_to, opened, whole_output}
use Rattle.paper.specs.Run.{Row, started_desk, next_of, given, stated, input_of, prints_of}
use Rattle.paper.specs.Table.{table}
use Rattle.paper.proofs.Paper.{paper}

abbrev line_of : Row → List ℕ
line_of r = r.line

-- what rows print is what their lines print
rows-printed :
    (l : LineLeft) (rows : List Row) → given l rows ≡ stated rows
    → replies_to (record { desk = l.turn.desk; tree = l.tree }) (map line_of rows) ≡ prints_of rows
unfolding given stated replies_to prints_of
rows-printed l [] e = refl
rows-printed l (r ∷ rs) e =
    let first : bytes_of (next_of l r).turn.reply ≡ r.prints = cc in
    let rest : given (next_of l r) rs ≡ stated rs = cc in
    rw (first, rows-printed (next_of l r) rs rest)

table-lines : lines_of (input_of table) ≡ map line_of table
unfolding pieces input_of
table-lines = refl

pub whole-paper : whole_output (input_of table) ≡ prints_of table
whole-paper = ap (replies_to opened) table-lines ∙ rows-printed started_desk table paper
