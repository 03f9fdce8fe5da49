-- `rounds::play` meets its contract: begin and what follows are one round. Assumes nothing.
use Rattle.rounds.proofs.BegunLaws.{list-begun, nothing-begun}
use Rattle.rounds.proofs.play.Goals as goal

pub returns-in_default : goal.returns-in_default
returns-in_default c =
    let s = c.args in
    nothing-begun s.card s.request s.tree.now _ _ c.begin-begun.ensures c.in_default.not-Listed

pub returns : goal.returns
returns c =
    let s = c.args in
    list-begun s.card s.request s.tree.now _ _ c.begin-begun.ensures _ c.in-Listed.is _ _ c.carry.ensures
