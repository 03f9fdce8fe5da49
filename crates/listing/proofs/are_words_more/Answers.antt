use native.Mathlib.Omega.{arith}
use Rattle.listing.proofs.ListingLaws.{counts-few}
use Rattle.listing.proofs.are_words_more.Goals as goal

pub fetched_for-requires : goal.fetched_for-requires
fetched_for-requires c =
    let s = c.args in
    (c.requires.1.1, rw c.counts_for-counts.ensures (let few = counts-few s.sizes.h s.job (c.requires.0, c.requires.1.0) in (few.0, omega arith)))

pub returns : goal.returns
returns c = rw (c.fetched_for.ensures, c.counts_for-counts.ensures)
