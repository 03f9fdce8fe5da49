-- `is_sound` meets its contract: a proper record's label is a leaf of the tree. Assumes nothing.
use native.Mathlib.Omega.{arith}
use mathlib.Core.Path.{sym, ◌∙◌}
use Rattle.record.proofs.StandingLaws.{proper-true}
use Rattle.sound.proofs.is_sound.Goals as goal

pub holds-requires : goal.holds-requires
holds-requires c =
    let s = proper-true _ _ (sym c.is_proper.ensures ∙ c.if-is_proper.true) in
    (omega arith, (omega (arith, s.label), omega arith))
