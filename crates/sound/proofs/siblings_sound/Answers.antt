-- `siblings_sound` meets its contract: the levels before `level` have passed. Assumes nothing.
use native.Mathlib.Omega.{arith}
use Prim.Native.Nat.{◌-◌}
use mathlib.Core.Path.{◌∙◌, sym}
use Rattle.record.specs.Standing.{dummy}
use Rattle.record.proofs.WordsLaws.{records-at}
use Rattle.sound.specs.Sound.{siblings_sound}
use Rattle.sound.proofs.Checking.{passed-turns, passed-fails, passed-ends}
use Rattle.sound.proofs.siblings_sound.Goals as goal

pub returns-then-not-is_sound : goal.returns-then-not-is_sound
unfolding siblings_sound
returns-then-not-is_sound c =
    let k = records-at c.args.sibs.now (c.loop-level.level - 1) dummy (omega arith) in
    let t = rw (c.read-least.ensures, ← k, c.sibling-bucket.ensures, c.bucket_at.ensures) at (sym c.is_sound.ensures ∙ c.if-not-is_sound.true) in
    passed-fails _ _ _ _ c.loop-level.invariant c.loop-level-test.true t

pub loop-level-preserved : goal.loop-level-preserved
loop-level-preserved c =
    let k = records-at c.args.sibs.now (c.loop-level.level - 1) dummy (omega arith) in
    let t = rw (c.read-least.ensures, ← k, c.sibling-bucket.ensures, c.bucket_at.ensures) at (sym c.is_sound.ensures ∙ c.if-not-is_sound.false) in
    passed-turns _ _ _ _ c.loop-level.invariant c.loop-level-test.true t

pub returns : goal.returns
unfolding siblings_sound
returns c = passed-ends _ _ _ _ c.loop-level.invariant c.loop-level-test.false

pub returns-else-not-is_sound : goal.returns-else-not-is_sound
unfolding siblings_sound
returns-else-not-is_sound c =
    let k = records-at c.args.sibs.now (c.loop-level.level - 1) dummy (omega arith) in
    let t = rw (c.read-least.ensures, ← k, c.sibling-bucket.ensures, c.bucket_at.ensures) at (sym c.is_sound.ensures ∙ c.if-not-is_sound.false) in
    passed-ends _ _ _ _ (passed-turns _ _ _ _ c.loop-level.invariant c.loop-level-test.true t) (omega arith)
