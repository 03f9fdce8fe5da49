-- `bucket_sound` meets its contract: the records before place i have passed. Assumes nothing.
use mathlib.Core.Path.{◌∙◌, sym}
use Rattle.record.proofs.PlacesLaws.{pass-starts, pass-turns, pass-fails, pass-ends}
use Rattle.sound.proofs.bucket_sound.Goals as goal

pub loop-i-init : goal.loop-i-init
loop-i-init c = pass-starts _

pub returns-then-not-is_sound : goal.returns-then-not-is_sound
returns-then-not-is_sound c =
    let t = rw c.read.ensures at (sym c.is_sound.ensures ∙ c.if-not-is_sound.true) in
    sym (pass-fails _ _ _ c.loop-i-test.true t)

pub loop-i-preserved : goal.loop-i-preserved
loop-i-preserved c =
    let t = rw c.read.ensures at (sym c.is_sound.ensures ∙ c.if-not-is_sound.false) in
    pass-turns _ _ _ c.loop-i-test.true c.loop-i.invariant t

pub returns : goal.returns
returns c = sym (pass-ends _ _ _ c.loop-i-test.false c.loop-i.invariant)
