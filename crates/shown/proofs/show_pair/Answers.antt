-- `show_pair`: the first way, each path's siblings, and the slots of both paths. Assumes nothing.
use Rattle.shown.proofs.ShownLaws.{pair-shown}
use Rattle.shown.proofs.show_pair.Goals as goal

pub returns : goal.returns
returns c =
    let s = c.args in
    pair-shown s.sizes s.root s.words.now _ _ _ _ c.show_way.ensures _ _ c.show_siblings-moved.ensures
    c.show_siblings-more.ensures c.show_way-2.ensures
