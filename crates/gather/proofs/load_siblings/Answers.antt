-- `load_siblings` meets its contract: the loop has laid and counted so many siblings. Assumes nothing.
use native.Mathlib.Omega.{arith}
use Prim.Native.Nat.{◌+◌, ◌-◌}
use mathlib.Core.Path.{◌≡◌}
use Rattle.gather.proofs.Loading.{siblings-start, siblings-turn}
use Rattle.gather.proofs.load_siblings.Goals as goal

pub loop-i-init : goal.loop-i-init
loop-i-init c = (omega arith, siblings-start _ _ _ _ _ _)

pub loop-i-preserved : goal.loop-i-preserved
loop-i-preserved c =
    (omega arith, siblings-turn _ _ _ _ _ _ _ _ _ c.loop-i.invariant.1 (omega (arith, c.requires)) (omega (arith, c.requires)) c.copy.ensures)

pub returns : goal.returns
returns c =
    let e : c.loop-i.i ≡ c.args.sizes.h + 1 - c.args.level = omega arith in
    record { laid = rw e at c.loop-i.invariant.1.done; counted = rw e at c.loop-i.invariant.0 }
