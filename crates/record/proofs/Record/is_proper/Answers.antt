use borrow.Author.Tests.{lt-ltb, le-ltb}
use Rattle.record.specs.Standing.{is_proper}
use Rattle.record.proofs.Record.is_proper.Goals as goal

pub returns-then-self-ge-DUMMY_KEY : goal.returns-then-self-ge-DUMMY_KEY
unfolding is_proper
returns-then-self-ge-DUMMY_KEY c = rw (le-ltb _ _ c.if-self-ge-DUMMY_KEY.true)

pub returns-then-self-rule : goal.returns-then-self-rule
unfolding is_proper
returns-then-self-rule c = rw (lt-ltb _ _ c.if-self-ge-DUMMY_KEY.false, le-ltb _ _ c.if-self-rule.true)

pub returns : goal.returns
unfolding is_proper
returns c =
    rw (lt-ltb _ _ c.if-self-ge-DUMMY_KEY.false, lt-ltb _ _ c.if-self-rule.false) c.is_known.ensures
