use borrow.Author.Tests.{lt-ltb, le-ltb, eq-eqb, ne_eqb}
use Rattle.record.specs.Order.{before}
use Rattle.record.proofs.LexicalLaws.{leb-last}
use Rattle.record.proofs.Record.no_later.Goals as goal

pub returns-then-self-other : goal.returns-then-self-other
unfolding before
returns-then-self-other c = λ rule. rw (lt-ltb _ _ c.if-self-other.true)

pub returns-then-self-other-2 : goal.returns-then-self-other-2
unfolding before
returns-then-self-other-2 c = λ rule.
    rw (le-ltb _ _ c.if-self-other.false, eq-eqb _ _ c.if-self-other-2.true, leb-last)

pub returns-else-self-other-2 : goal.returns-else-self-other-2
unfolding before
returns-else-self-other-2 c = λ rule.
    rw (le-ltb _ _ c.if-self-other.false, ne_eqb _ _ c.if-self-other-2.false)
