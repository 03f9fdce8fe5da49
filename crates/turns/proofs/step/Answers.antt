-- `turns::step` meets its contract: each kind of line by the function that does it. Assumes nothing.
use Rattle.steps.proofs.AskedLaws.{unread-line, min-line}
use Rattle.turns.proofs.step.Goals as goal

pub returns-in-Unreadable : goal.returns-in-Unreadable
returns-in-Unreadable c =
    let s = c.args in
    rw c.in-Unreadable.is (unread-line s.desk.now s.tree.now _ c.unread_by.ensures)

pub returns-in-Size : goal.returns-in-Size
returns-in-Size c = rw c.in-Size.is c.size.ensures

pub returns-in-Min : goal.returns-in-Min
returns-in-Min c =
    let s = c.args in
    rw c.in-Min.is (min-line s.desk.now s.tree.now _ c.min.ensures)

pub returns-in-Ask : goal.returns-in-Ask
returns-in-Ask c = rw c.in-Ask.is c.ask.ensures
