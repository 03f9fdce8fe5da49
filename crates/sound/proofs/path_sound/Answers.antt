-- `path_sound` meets its contract: the levels before `level` have passed. Assumes nothing.
use native.Mathlib.Omega.{arith}
use mathlib.Core.Path.{◌∙◌, sym}
use Rattle.sound.specs.Sound.{path_sound}
use Rattle.sound.proofs.Checking.{passed-turns, passed-fails, passed-ends, from_one, bucket-shown}
use Rattle.sound.proofs.path_sound.Goals as goal

pub returns-then-not-bucket_sound : goal.returns-then-not-bucket_sound
unfolding path_sound
returns-then-not-bucket_sound c =
    let s = c.args in
    let shown = bucket-shown s.sizes.z s.path.now s.sizes.h c.loop-level.level c.requires.0.buckets c.loop-level.invariant.since c.loop-level-test.true _ c.bucket_words-size.ensures in
    let t = rw (c.bucket_at-bucket.ensures, shown) at (sym c.bucket_sound.ensures ∙ c.if-not-bucket_sound.true) in
    passed-fails _ _ _ _ c.loop-level.invariant c.loop-level-test.true t ∙ from_one _ _

pub loop-level-preserved : goal.loop-level-preserved
loop-level-preserved c =
    let s = c.args in
    let shown = bucket-shown s.sizes.z s.path.now s.sizes.h c.loop-level.level c.requires.0.buckets c.loop-level.invariant.since c.loop-level-test.true _ c.bucket_words-size.ensures in
    let t = rw (c.bucket_at-bucket.ensures, shown) at (sym c.bucket_sound.ensures ∙ c.if-not-bucket_sound.false) in
    passed-turns _ _ _ _ c.loop-level.invariant c.loop-level-test.true t

pub returns-else-not-bucket_sound : goal.returns-else-not-bucket_sound
unfolding path_sound
returns-else-not-bucket_sound c =
    let s = c.args in
    let shown = bucket-shown s.sizes.z s.path.now s.sizes.h c.loop-level.level c.requires.0.buckets c.loop-level.invariant.since c.loop-level-test.true _ c.bucket_words-size.ensures in
    let t = rw (c.bucket_at-bucket.ensures, shown) at (sym c.bucket_sound.ensures ∙ c.if-not-bucket_sound.false) in
    passed-ends _ _ _ _ (passed-turns _ _ _ _ c.loop-level.invariant c.loop-level-test.true t) (omega arith) ∙ from_one _ _
