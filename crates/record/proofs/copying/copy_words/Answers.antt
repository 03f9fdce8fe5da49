-- `copy_words` meets its contract. The loop: `Pasting`. Assumes nothing.
use Rattle.record.proofs.Pasting.{pasting-starts, pasting-turns, pasting-ends}
use Rattle.record.proofs.copying.copy_words.Goals as goal

pub loop-i-init : goal.loop-i-init
loop-i-init c = pasting-starts _ _ _ _ _

pub loop-i-preserved : goal.loop-i-preserved
loop-i-preserved c =
    pasting-turns _ _ _ _ _ _ _ c.loop-i.invariant c.loop-i-test.true c.requires.0 c.requires.1

pub returns : goal.returns
returns c = pasting-ends _ _ _ _ _ _ _ c.loop-i.invariant c.loop-i-test.false
