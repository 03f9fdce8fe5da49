-- `leasts_true` meets its contract: the levels before `level` have passed. Assumes nothing.
use native.Mathlib.Omega.{arith}
use mathlib.Core.Path.{◌∙◌, sym}
use Rattle.truth.specs.Leasts.{leasts_true}
use Rattle.sound.proofs.Checking.{passed-starts, passed-turns, passed-fails, passed-ends, from_one}
use Rattle.truth.proofs.leasts_true.Goals as goal

pub loop-level-init : goal.loop-level-init
loop-level-init c = λ rule. passed-starts _ _ _

pub returns-then-not-least_true : goal.returns-then-not-least_true
unfolding leasts_true
returns-then-not-least_true c = λ rule.
    passed-fails _ _ _ _ (c.loop-level.invariant rule) c.loop-level-test.true (sym (c.least_true.ensures rule) ∙ c.if-not-least_true.true) ∙ from_one _ _

pub loop-level-preserved : goal.loop-level-preserved
loop-level-preserved c = λ rule.
    passed-turns _ _ _ _ (c.loop-level.invariant rule) c.loop-level-test.true (sym (c.least_true.ensures rule) ∙ c.if-not-least_true.false)

pub returns-else-not-least_true : goal.returns-else-not-least_true
unfolding leasts_true
returns-else-not-least_true c = λ rule.
    let passed = passed-turns _ _ _ _ (c.loop-level.invariant rule) c.loop-level-test.true (sym (c.least_true.ensures rule) ∙ c.if-not-least_true.false) in
    passed-ends _ _ _ _ passed (omega arith) ∙ from_one _ _
