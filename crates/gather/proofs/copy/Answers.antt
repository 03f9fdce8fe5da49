-- `copy` meets its contract: words copied are records laid. Assumes nothing.
use mathlib.Core.Path.{◌∙◌}
use Rattle.gather.proofs.LaidLaws.{paste-laid}
use Rattle.gather.proofs.copy.Goals as goal

pub returns : goal.returns
returns c =
    let s = c.args in
    c.copy_words.ensures ∙ paste-laid s.w.now s.src.now s.at s.from s.n c.requires.1
