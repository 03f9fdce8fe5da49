use mathlib.Core.Path.{sym, ◌∙◌}
use Rattle.lists.proofs.ListLaws.{path-counts, pair-counts}
use Rattle.listing.proofs.counts_for.Goals as goal

pub returns-in-Path : goal.returns-in-Path
returns-in-Path c = rw c.in-Path.is (c.path_counts.ensures ∙ sym (path-counts _ _))

pub returns-in-Pair : goal.returns-in-Pair
returns-in-Pair c = rw c.in-Pair.is (c.pair_counts.ensures ∙ sym (pair-counts _ _ _ c.requires.0))
