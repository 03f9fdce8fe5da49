-- `mending::mend_path`: the buckets below `level` are laid, and the least records of its children known. Assumes nothing.
use native.Mathlib.Omega.{arith}
use Rattle.mend.proofs.MendLaws.{mending-starts, mending-turns, mending-ends}
use Rattle.mend.proofs.mending.mend_path.Goals as goal

pub loop-level-init : goal.loop-level-init
loop-level-init c = mending-starts _ _ _ _ _ c.requires

pub loop-level-preserved : goal.loop-level-preserved
loop-level-preserved c =
    let wrote = c.write_bucket in
    mending-turns _ _ _ _ _ c.requires _ _ _ _ _ c.loop-level.invariant c.loop-level-test.true
    _ _ _ _ _ c.least_over-own.ensures wrote.ensures wrote.auto.part
    c.read-other.ensures c.bucket_at.ensures c.kids_least-least.ensures

pub returns : goal.returns
returns c =
    mending-ends _ _ _ _ _ c.requires _ _ _ _ _ c.loop-level.invariant (omega arith)
