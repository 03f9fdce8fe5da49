-- `copies::store_listed` meets its contract. The loop: `Storing`. Assumes nothing.
use native.Mathlib.Omega.{arith}
use Rattle.copies.proofs.CoverLaws.{covered-at}
use Rattle.copies.proofs.MoveLaws.{storing-starts, storing-fits, storing-within, storing-turns, storing-ends}
use Rattle.copies.proofs.store_listed.Goals as goal

pub loop-number-init : goal.loop-number-init
loop-number-init c = storing-starts _ _ c.requires.covered c.requires.z_in_bounds

pub bucket_start-to-requires : goal.bucket_start-to-requires
bucket_start-to-requires c = omega (arith, covered-at c.requires.covered _ c.loop-number-test.true)

pub copy_words-requires : goal.copy_words-requires
copy_words-requires c =
    let fits =
    storing-fits _ _ c.requires.covered c.requires.z_in_bounds _ _ _ c.loop-number.invariant c.loop-number-test.true in
    let within =
    storing-within _ _ c.requires.covered c.requires.z_in_bounds _ _ _ c.loop-number.invariant c.loop-number-test.true in
    (rw (c.bucket_start-to.ensures, c.bucket_words-bucket.ensures) within, omega (arith, fits))

pub overflow_add-at : goal.overflow_add-at
overflow_add-at c =
    let fits =
    storing-fits _ _ c.requires.covered c.requires.z_in_bounds _ _ _ c.loop-number.invariant c.loop-number-test.true in
    omega (arith, fits)

pub loop-number-preserved : goal.loop-number-preserved
loop-number-preserved c =
    rw (c.copy_words.ensures, c.bucket_words-bucket.ensures)
    (storing-turns _ _ c.requires.covered c.requires.z_in_bounds _ _ _ c.loop-number.invariant c.loop-number-test.true _ c.bucket_start-to.ensures)

pub returns : goal.returns
returns c =
    storing-ends _ _ c.requires.covered c.requires.z_in_bounds _ _ _ c.loop-number.invariant c.loop-number-test.false
