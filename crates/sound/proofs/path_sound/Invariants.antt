-- `path_sound` meets its contract: the levels before `level` have passed. Assumes nothing.
use mathlib.Core.List.{◌∷◌}
use Rattle.record.specs.Many.{every}
use Rattle.path.specs.Path.{path_bucket}
use Rattle.sound.specs.Sound.{sound}
use Rattle.sound.specs.Fetched.{shown_in}
use Rattle.sound.proofs.Checking.{Passed}
use Rattle.sound.proofs.path_sound.Given as goal

abbrev pub invariant-loop-level : goal.invariant-loop-level
invariant-loop-level l =
    Passed (λ d. every (sound l.sizes.h l.rule d (path_bucket l.sizes.h l.leaf d)) ((shown_in l.sizes.z l.path d).least ∷ (shown_in l.sizes.z l.path d).slots)) l.sizes.h 1 l.level
