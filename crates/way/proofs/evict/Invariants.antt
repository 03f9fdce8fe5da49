-- `evict`: all levels from this one down have been filled. Assumes nothing.
use Rattle.way.specs.Evict.{fits}
use Rattle.way.proofs.EvictLaws.{levels_left}
use Rattle.way.proofs.evict.Given as goal

abbrev pub invariant-loop-above : goal.invariant-loop-above
invariant-loop-above l = levels_left (fits l.sizes.h l.leaf) l.sizes.r l.sizes.z l.sizes.h l.initial.w l.w l.above
