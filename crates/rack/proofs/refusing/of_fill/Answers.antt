-- `rack::refusing::of_fill` meets its contract: a return for each row of the table. Assumes nothing.
use mathlib.Core.Path.{sym, ◌∙◌}
use borrow.Author.Tests.{eq-eqb, ne_eqb}
use Rattle.refusal.specs.Refusal.{first_given}
use Rattle.rack.proofs.refusing.of_fill.Goals as goal

pub returns-then-not-tree_in_range : goal.returns-then-not-tree_in_range
unfolding first_given
returns-then-not-tree_in_range c = rw (sym c.tree_in_range.ensures ∙ c.if-not-tree_in_range.true)

pub returns-then-tree-tree_words : goal.returns-then-tree-tree_words
unfolding first_given
returns-then-tree-tree_words c =
    rw (sym c.tree_in_range.ensures ∙ c.if-not-tree_in_range.false, eq-eqb _ _ (c.if-tree-tree_words.true ∙ c.tree_words.ensures))

pub returns-else-tree-tree_words : goal.returns-else-tree-tree_words
unfolding first_given
returns-else-tree-tree_words c =
    rw (sym c.tree_in_range.ensures ∙ c.if-not-tree_in_range.false, ne_eqb _ _ (rw c.tree_words.ensures at c.if-tree-tree_words.false))
