-- `bucket_sound` meets its contract: the records before place i have passed. Assumes nothing.
use mathlib.Core.Bool.{true}
use mathlib.Core.Path.{◌≡◌}
use lib.ListN.{take}
use Rattle.record.specs.Words.{records}
use Rattle.record.specs.Many.{every}
use Rattle.sound.specs.Sound.{sound}
use Rattle.sound.proofs.bucket_sound.Given as goal

abbrev pub invariant-loop-i : goal.invariant-loop-i
invariant-loop-i l = every (sound l.sizes.h l.rule l.level l.bucket) (take l.i (records l.part)) ≡ true
