-- `path_damaged` meets its contract: where no clause before it holds, the root's least record decides. Assumes nothing.
use native.Mathlib.Omega.{arith}
use mathlib.Core.Bool.{not}
use mathlib.Core.Path.{sym, ap, ◌∙◌}
use borrow.Author.Tests.{not-false}
use Rattle.damage.specs.Damaged.{path_damaged}
use Rattle.damage.proofs.RootLaws.{first-shown, first-beside, root-true}
use Rattle.damage.proofs.path_damaged.Goals as goal
use Rattle.damage.proofs.path_damaged.Goals.{then-not-all_sound, else-not-all_sound, then-stamp_twice, else-stamp_twice}

pub returns-else-not-leasts_true : goal.returns-else-not-leasts_true
unfolding path_damaged
returns-else-not-leasts_true c =
    let s = c.args in
    let own = c.read-own.ensures ∙ first-shown s.sizes.z s.path.now (omega (arith, c.requires)) in
    let other = c.read-other.ensures ∙ first-beside s.sibs.now (omega (arith, c.requires)) in
    let kids = rw (c.bucket_at.ensures, own, other) at (c.kids_least-kids.ensures s.rule) in
    let root = ap not (root-true s.rule _ _ _ _ _ _ kids (c.least_over.ensures s.rule) c.same.ensures) in
    elim c.if-stamp_twice.branch [
      | then-stamp_twice w ↦ cc
      | else-stamp_twice w ↦ elim c.if-not-all_sound.branch [
        | then-not-all_sound v ↦ cc
        | else-not-all_sound v ↦
            let sound = sym c.all_sound.ensures ∙ v.if-not-all_sound.false in
            let once = sym v.stamp_twice.ensures ∙ sym v.value-is ∙ w.if-stamp_twice.false in
            let leasts = sym (w.leasts_true.ensures s.rule) ∙ not-false _ (sym w.value-is ∙ c.if-not-leasts_true.false) in
            rw (sound, once, leasts) root
      ]
    ]
