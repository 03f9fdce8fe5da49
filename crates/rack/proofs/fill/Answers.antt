-- `rack::fill` meets its contract: where nothing is refused, the tree is a whole number of records. Assumes nothing.
use mathlib.Core.Path.{sym, ◌∙◌}
use Rattle.copies.proofs.LayoutLaws.{tree-records}
use Rattle.refusal.proofs.RefusalLaws.{left-done}
use Rattle.rack.proofs.RefusalLaws.{fill-passes}
use Rattle.rack.proofs.fill.Goals as goal

pub fill_dummies-requires : goal.fill_dummies-requires
fill_dummies-requires c = (tree-records _ _ _ (fill-passes _ _ _ (sym c.in_ok-of_fill.ensures)).whole-tree).0

pub returns : goal.returns
returns c =
    let p = fill-passes _ _ _ (sym c.in_ok-of_fill.ensures) in
    record {
      number = c.in_ok-of_fill.ensures;
      lent =
          c.fill_dummies.ensures
          ∙ rw (tree-records _ _ _ p.whole-tree).1 (sym (left-done _ _ _ (sym c.in_ok-of_fill.ensures)));
    }
