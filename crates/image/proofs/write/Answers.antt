-- `write` meets its contract: head, least record and root are all of the words. Assumes nothing.
use borrow.Author.Rules.{rules}
use mathlib.Core.Path.{◌≡◌, ◌∙◌}
use lib.ListN.{length}
use Rattle.gather.proofs.RootLaws.{length-mapped}
use Rattle.image.proofs.ImageLaws.{image-written}
use Rattle.image.proofs.write.Goals as goal

pub returns : goal.returns
returns c =
    let root-length : length c.args.card.root ≡ 64 = search (rules, length-mapped) in
    image-written c.args.card root-length c.args.words.now c.told-words _ (c.write.ensures ∙ rw (c.copy.ensures, c.head_words-head.ensures)) _ c.load_root.ensures
