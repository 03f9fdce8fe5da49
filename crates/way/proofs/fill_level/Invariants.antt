-- `fill_level`: the first k slots of the level have been filled. Assumes nothing.
use mathlib.Core.Path.{◌≡◌}
use Rattle.record.specs.Words.{records}
use Rattle.way.specs.Evict.{fits, pulls}
use Rattle.way.proofs.fill_level.Given as goal

abbrev pub invariant-loop-k : goal.invariant-loop-k
invariant-loop-k l = records l.w ≡ pulls (fits l.sizes.h l.leaf l.level) l.lo l.k (records l.initial.w)
