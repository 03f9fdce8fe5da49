-- `copies::fill_dummies` meets its contract. The loop: `Filling`. Assumes nothing.
use native.Mathlib.Omega.{arith}
use Rattle.copies.proofs.CopyLaws.{filling-starts, filling-turns}
use Rattle.copies.proofs.fill_dummies.Goals as goal

pub loop-place-init : goal.loop-place-init
loop-place-init c = filling-starts _

pub loop-place-preserved : goal.loop-place-preserved
loop-place-preserved c =
    rw c.write.ensures (filling-turns _ _ _ c.loop-place.invariant (omega arith))
