-- `show_path`: the way, then the siblings. Assumes nothing.
use Rattle.shown.proofs.ShownLaws.{path-shown}
use Rattle.shown.proofs.show_path.Goals as goal

pub returns : goal.returns
returns c =
    let s = c.args in
    path-shown s.sizes s.root s.words.now s.w.now s.sibs.now _ _ c.requires c.show_way.ensures _
    c.load_siblings.ensures
