-- `pair_damaged` meets its contract: where no clause before it holds, the root's least record decides. Assumes nothing.
use native.Mathlib.Omega.{arith}
use mathlib.Core.Bool.{not}
use mathlib.Core.Path.{sym, ap, ◌∙◌}
use borrow.Author.Tests.{not-false}
use Rattle.damage.specs.Damaged.{pair_damaged}
use Rattle.damage.proofs.RootLaws.{first-shown, kids-two, root-true}
use Rattle.damage.proofs.pair_damaged.Goals as goal
use Rattle.damage.proofs.pair_damaged.Goals.{then-not-all_sound, else-not-all_sound, then-not-all_sound-2, else-not-all_sound-2, then-stamp_twice, else-stamp_twice, then-not-leasts_true, else-not-leasts_true}

pub returns-else-not-leasts_true-2 : goal.returns-else-not-leasts_true-2
unfolding pair_damaged
returns-else-not-leasts_true-2 c =
    let s = c.args in
    let lower = c.read-lower.ensures ∙ first-shown s.sizes.z s.one.now (omega (arith, c.requires)) in
    let upper = c.read-upper.ensures ∙ first-shown s.sizes.z s.two.now (omega (arith, c.requires)) in
    let kids = rw (lower, upper) at (kids-two s.rule _ _ _ _ (c.smaller.ensures s.rule) (c.smaller-kids.ensures s.rule)) in
    let root = ap not (root-true s.rule _ _ _ _ _ _ kids (c.least_over.ensures s.rule) c.same.ensures) in
    elim c.if-not-leasts_true.branch [
      | then-not-leasts_true u ↦ cc
      | else-not-leasts_true u ↦ elim c.if-stamp_twice.branch [
        | then-stamp_twice v ↦ cc
        | else-stamp_twice v ↦ elim c.if-not-all_sound-2.branch [
          | then-not-all_sound-2 w ↦ cc
          | else-not-all_sound-2 w ↦ elim c.if-not-all_sound.branch [
            | then-not-all_sound x ↦ cc
            | else-not-all_sound x ↦
                let first = sym c.all_sound.ensures ∙ x.if-not-all_sound.false in
                let second = sym x.all_sound-else-not-all_sound.ensures ∙ not-false _ (sym x.value-is ∙ w.if-not-all_sound-2.false) in
                let once = sym w.stamp_twice.ensures ∙ sym w.value-is ∙ v.if-stamp_twice.false in
                let leasts = sym (v.leasts_true.ensures s.rule) ∙ not-false _ (sym v.value-is ∙ u.if-not-leasts_true.false) in
                let others = sym (u.leasts_true-else-not-leasts_true.ensures s.rule) ∙ not-false _ (sym u.value-is ∙ c.if-not-leasts_true-2.false) in
                rw (first, second, once, leasts, others) root
          ]
        ]
      ]
    ]
