-- `copies::fetch_listed` meets its contract. The loop: `Fetching`. Assumes nothing.
use native.Mathlib.Omega.{arith}
use Rattle.copies.proofs.CoverLaws.{covered-at}
use Rattle.copies.proofs.MoveLaws.{part-most, fetching-starts, fetching-fits, fetching-turns, fetching-ends}
use Rattle.copies.proofs.fetch_listed.Goals as goal

pub loop-i-init : goal.loop-i-init
loop-i-init c = fetching-starts _ _ _ _ c.requires.covered c.requires.least_in_bounds

pub bucket_start-from-requires : goal.bucket_start-from-requires
bucket_start-from-requires c = omega (arith, covered-at c.requires.covered _ c.loop-i-test.true)

pub copy_words-requires : goal.copy_words-requires
copy_words-requires c =
    let fits =
    fetching-fits _ _ _ _ c.requires.covered c.requires.least_in_bounds _ _ _ c.loop-i.invariant c.loop-i-test.true in
    let stands = covered-at c.requires.covered _ c.loop-i-test.true in
    (omega (arith, fits), omega (arith, stands, part-most c.args.z c.args.whole c.loop-i.i))

pub overflow_add-at : goal.overflow_add-at
overflow_add-at c =
    let fits =
    fetching-fits _ _ _ _ c.requires.covered c.requires.least_in_bounds _ _ _ c.loop-i.invariant c.loop-i-test.true in
    omega (arith, fits)

pub loop-i-preserved : goal.loop-i-preserved
loop-i-preserved c =
    rw (c.copy_words.ensures, c.part_words-part.ensures)
    (fetching-turns _ _ _ _ c.requires.covered c.requires.least_in_bounds _ _ _ c.loop-i.invariant c.loop-i-test.true _ c.bucket_start-from.ensures)

pub returns : goal.returns
returns c =
    fetching-ends _ _ _ _ c.requires.covered c.requires.least_in_bounds _ _ _ c.loop-i.invariant c.loop-i-test.false
