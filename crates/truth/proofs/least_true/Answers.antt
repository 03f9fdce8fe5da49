-- `least_true` meets its contract. Assumes nothing.
use native.Mathlib.Omega.{arith}
use Rattle.truth.proofs.LevelLaws.{level-true}
use Rattle.truth.proofs.least_true.Goals as goal

pub returns : goal.returns
returns c = λ rule.
    let s = c.args in
    level-true s.sizes.z s.path.now s.sizes.h s.level c.requires.0.buckets (omega arith) (omega arith) rule _ _ _ _ _ c.read.ensures (c.least_kid-kid.ensures rule) (c.least_over-given.ensures rule) c.same.ensures
