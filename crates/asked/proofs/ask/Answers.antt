-- `asked::ask` meets its contract: `?`, or what the round comes to. Assumes nothing.
use native.Mathlib.Omega.{arith}
use mathlib.Core.Path.{refl, sym}
use lib.Seq.{length-take-le}
use Rattle.steps.proofs.AskedLaws.{not-sized, was-asked}
use Rattle.asked.proofs.ask.Goals as goal

pub returns-in_default : goal.returns-in_default
returns-in_default c =
    let s = c.args in
    not-sized s.desk.now s.tree.now s.request _ c.in_default.not-Some c.unread_by.ensures

pub slice_bounds-play-end-2 : goal.slice_bounds-play-end-2
slice_bounds-play-end-2 c = sym (length-take-le _ _ (omega arith))

pub returns : goal.returns
returns c =
    let s = c.args in
    was-asked s.desk.now s.tree.now s.request _ _ _ _ _ _ c.in-Some.is c.used-n.ensures c.play-done.ensures refl c.told_by.ensures
