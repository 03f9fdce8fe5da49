-- `evict`: all levels from this one down have been filled. Assumes nothing.
use native.Mathlib.Omega.{arith}
use Prim.Native.Nat.{◌+◌, ◌-◌}
use mathlib.Core.Path.{◌≡◌, refl}
use Rattle.way.specs.Evict.{evict, evict_up}
use Rattle.way.proofs.EvictLaws.{level-next}
use Rattle.way.proofs.evict.Goals as goal

pub loop-above-init : goal.loop-above-init
loop-above-init c = refl

pub loop-above-preserved : goal.loop-above-preserved
loop-above-preserved c =
    let this : c.loop-above.above - 1 + 1 ≡ c.loop-above.above = omega arith in
    level-next _ _ _ _ _ _ _ _ c.loop-above-test.true (rw this at c.fill_level.ensures) c.loop-above.invariant

pub returns : goal.returns
unfolding evict evict_up
returns c = let none : c.loop-above.above ≡ 0 = omega arith in rw none at c.loop-above.invariant
