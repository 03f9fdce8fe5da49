-- `afresh::size` meets its contract: refused, too large, or afresh. Assumes nothing.
use mathlib.Core.Path.{refl, sym, ap}
use lib.Seq.{length-take-le}
use Rattle.steps.proofs.SizeLaws.{size-refused, over, afresh}
use mathlib.Core.Bool.{not}
use Rattle.afresh.proofs.size.Goals as goal

pub returns-then-not-in_range : goal.returns-then-not-in_range
returns-then-not-in_range c =
    size-refused c.args.desk.now c.args.h c.args.z c.args.r c.args.t c.args.tree.now _ c.start-done.ensures _ c.in_range.ensures _ (ap not c.if-not-in_range.true) c.kept_by.ensures

pub returns-then-words-gt-TREE_MOST : goal.returns-then-words-gt-TREE_MOST
returns-then-words-gt-TREE_MOST c =
    over c.args.desk.now c.args.h c.args.z c.args.r c.args.t c.args.tree.now _ c.start-done.ensures _ c.in_range.ensures (ap not c.if-not-in_range.false) _ c.tree_words-words.ensures c.then-words-gt-TREE_MOST.either _ c.unread_by.ensures

pub slice_bounds-fill-end-2 : goal.slice_bounds-fill-end-2
slice_bounds-fill-end-2 c = sym (length-take-le _ _ c.if-words-tree.false)

pub returns : goal.returns
returns c =
    afresh c.args.desk.now c.args.h c.args.z c.args.r c.args.t c.args.tree.now _ c.start-done.ensures _ c.in_range.ensures (ap not c.if-not-in_range.false) _ c.tree_words-words.ensures c.if-words-gt-TREE_MOST.false c.if-words-tree.false _ _ _ c.fill.ensures refl _ c.told_by.ensures
