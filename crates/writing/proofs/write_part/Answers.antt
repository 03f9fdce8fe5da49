-- `write_part`: as many words as there are. Assumes nothing.
use mathlib.Core.Path.{refl, ◌∙◌}
use Rattle.record.proofs.Pasting.{paste-whole}
use Rattle.writing.proofs.write_part.Goals as goal

pub returns : goal.returns
returns c =
    let s = c.args in
    c.copy_words.ensures ∙ paste-whole s.part.now s.from.now _ c.requires refl
