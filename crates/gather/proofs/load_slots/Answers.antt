-- `load_slots` meets its contract: the loop has laid the slots of so many buckets. Assumes nothing.
use Rattle.gather.proofs.Loading.{slots-start, slots-turn}
use Rattle.gather.proofs.load_slots.Goals as goal

pub loop-i-init : goal.loop-i-init
loop-i-init c = slots-start _ _ _ _ _

pub loop-i-preserved : goal.loop-i-preserved
loop-i-preserved c =
    slots-turn _ _ _ _ _ _ _ _ _ c.loop-i.invariant c.loop-i-test.true c.requires.1.0 c.requires.1.1 c.copy.ensures
