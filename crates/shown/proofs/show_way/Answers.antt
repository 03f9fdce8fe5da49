-- `show_way`: the root's slots are laid first, the buckets' behind them. Assumes nothing.
use borrow.Author.Rules.{rules}
use mathlib.Core.Path.{◌≡◌}
use lib.ListN.{length}
use Rattle.gather.proofs.RootLaws.{length-mapped}
use Rattle.shown.proofs.ShownLaws.{way-shown}
use Rattle.shown.proofs.show_way.Goals as goal

pub returns : goal.returns
returns c =
    let s = c.args in
    let full : length s.root ≡ 64 = search (rules, length-mapped) in
    way-shown s.sizes s.n s.root s.words.now s.w.now _ _ c.requires full c.load_root.ensures
    c.load_slots.ensures
