-- `fill_level`: the first k slots of the level have been filled. Assumes nothing.
use native.Mathlib.Omega.{arith}
use mathlib.Core.Path.{◌≡◌, refl}
use Rattle.way.specs.Evict.{pulls}
use Rattle.way.proofs.EvictLaws.{slot-next}
use Rattle.way.proofs.fill_level.Goals as goal

pub loop-k-init : goal.loop-k-init
unfolding pulls
loop-k-init c = refl

pub loop-k-preserved : goal.loop-k-preserved
loop-k-preserved c = slot-next _ _ _ _ _ _ c.loop-k.invariant c.pull.ensures

pub returns : goal.returns
returns c = let all : c.loop-k.k ≡ c.args.sizes.z = omega arith in rw all at c.loop-k.invariant
