-- `least_over`: the least of the slots from k on, and of the one after them. Assumes nothing.
use native.Mathlib.Omega.{arith}
use mathlib.Core.Path.{◌≡◌, ◌∙◌}
use Rattle.least.proofs.LeastLaws.{over-starts, over-turns}
use Rattle.least.proofs.least_over.Goals as goal

pub loop-k-init : goal.loop-k-init
loop-k-init c = (omega arith, λ rule. over-starts rule _ _ _ c.requires _)

pub loop-k-preserved : goal.loop-k-preserved
loop-k-preserved c =
    let known = c.loop-k.invariant in (
      omega arith,
      λ rule.
          let turns = over-turns rule _ _ _ c.requires _ _ _ c.loop-k-test.true known.0 (known.1 rule) in
          c.smaller-least.ensures rule ∙ rw c.read.ensures turns,
    )

pub returns : goal.returns
returns c = λ rule.
    let e : c.loop-k.k ≡ 0 = omega arith in
    rw e at (c.loop-k.invariant.1 rule)
