-- `read` meets its contract: the words behind the least record are the 64 places of the root. Assumes nothing.
use mathlib.Core.Path.{refl, ◌∙◌}
use lib.ListN.{replicate}
use Rattle.record.specs.Standing.{dummy}
use Rattle.image.specs.Reading.{card_in}
use Rattle.image.proofs.ImageLaws.{root-read}
use Rattle.image.proofs.read.Goals as goal

pub returns : goal.returns
unfolding card_in
returns c =
    rw (c.save_root-root.ensures ∙ root-read c.args.words.now (replicate 64 dummy) c.told-words refl, c.read-least.ensures, c.waiting_of-waiting.ensures)
