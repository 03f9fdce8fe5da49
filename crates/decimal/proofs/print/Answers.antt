-- `decimal::print` meets its contract. The loop: `Spelling`. Assumes nothing.
use Rattle.decimal.proofs.PrintLaws.{spelling-starts, spelling-turns, spelling-ends, number-no-room, number-in-room}
use Rattle.decimal.proofs.print.Goals as goal

pub returns-then-out-k : goal.returns-then-out-k
returns-then-out-k c = number-no-room _ _ _ c.width-k.ensures c.if-out-k.true

pub loop-i-init : goal.loop-i-init
loop-i-init c = spelling-starts _ _ _ c.if-out-k.false

pub loop-i-preserved : goal.loop-i-preserved
loop-i-preserved c =
    spelling-turns _ _ _ c.if-out-k.false _ _ _ c.loop-i.invariant c.loop-i-test.true

pub returns : goal.returns
returns c =
    number-in-room _ _ _ c.width-k.ensures _ c.if-out-k.false (spelling-ends _ _ _ c.if-out-k.false _ _ _ c.loop-i.invariant c.loop-i-test.false)
