-- `show_siblings`: the dummy at the place of level 1, then the siblings from level 2 on. Assumes nothing.
use Rattle.shown.proofs.ShownLaws.{siblings-shown}
use Rattle.shown.proofs.show_siblings.Goals as goal

pub returns : goal.returns
returns c =
    let s = c.args in
    siblings-shown s.sizes s.skip s.words.now s.sibs.now _ _ c.requires c.write.ensures _ c.load_siblings.ensures
