use native.Mathlib.Omega.{arith}
use mathlib.Core.Path.{ap}
use Rattle.lists.specs.declared.Listed.{Listed}
use Rattle.lists.proofs.ListLaws.{length-numbers}
use Rattle.listing.specs.Listing.{list_for}
use Rattle.listing.proofs.ListingLaws.{counts-few}
use Rattle.listing.proofs.is_list_longer.Goals as goal

pub overflow_add-result : goal.overflow_add-result
overflow_add-result c =
    let s = c.args in
    let few = counts-few s.sizes.h s.job c.requires in
    omega (arith, few, ap (λ (n : Listed). n.whole) c.counts_for-counts.ensures, ap (λ (n : Listed). n.least) c.counts_for-counts.ensures)

pub returns : goal.returns
returns c = rw (c.counts_for-counts.ensures, length-numbers (list_for c.args.sizes.h c.args.job))
