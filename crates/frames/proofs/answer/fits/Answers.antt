-- `frames::answer::fits` meets its contract. The loop: `Counting`. Assumes nothing.
use Rattle.frames.proofs.AnswerLaws.{counting-starts, counting-turns, counting-fails, counting-ends}
use Rattle.frames.proofs.answer.fits.Goals as goal

pub loop-n-init : goal.loop-n-init
loop-n-init c = counting-starts _ _

pub returns-then-left-width : goal.returns-then-left-width
returns-then-left-width c =
    counting-fails _ _ _ _ c.loop-n.invariant c.loop-n-test.true _ c.width-width.ensures c.if-left-width.true

pub loop-n-preserved : goal.loop-n-preserved
loop-n-preserved c =
    counting-turns _ _ _ _ c.loop-n.invariant c.loop-n-test.true _ c.width-width.ensures c.if-left-width.false

pub returns : goal.returns
returns c = counting-ends _ _ _ _ c.loop-n.invariant c.loop-n-test.false
