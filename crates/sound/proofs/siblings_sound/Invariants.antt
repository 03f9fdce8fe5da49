-- `siblings_sound` meets its contract: the levels before `level` have passed. Assumes nothing.
use Rattle.path.specs.Path.{path_bucket, sibling_of}
use Rattle.sound.specs.Sound.{sound}
use Rattle.sound.specs.Fetched.{beside_in}
use Rattle.sound.proofs.Checking.{Passed}
use Rattle.sound.proofs.siblings_sound.Given as goal

abbrev pub invariant-loop-level : goal.invariant-loop-level
invariant-loop-level l =
    Passed (λ d. sound l.sizes.h l.rule d (sibling_of (path_bucket l.sizes.h l.leaf d)) (beside_in l.sibs d)) l.sizes.h l.from l.level
