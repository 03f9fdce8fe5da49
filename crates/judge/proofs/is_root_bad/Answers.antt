use borrow.Author.Rules.{rules}
use mathlib.Core.Path.{sym, ap, ◌∙◌}
use mathlib.Core.Bool.{not, true≢false}
use Rattle.judge.proofs.JudgeLaws.{slots-bad, past-bad, stamps-told}
use Rattle.judge.proofs.is_root_bad.Goals.{then-not-slots_fine, else-not-slots_fine}
use Rattle.judge.proofs.is_root_bad.Goals as goal

pub returns-then-not-all_dummies : goal.returns-then-not-all_dummies
returns-then-not-all_dummies c =
    let s = c.args in
    c.if-not-all_dummies.true ∙ elim c.if-not-slots_fine.branch [
      | then-not-slots_fine w ↦
          slots-bad s.root.now s.r s.rule s.c s.least _ c.slots_fine.ensures (ap not w.if-not-slots_fine.true)
      | else-not-slots_fine w ↦
          past-bad s.root.now s.r s.rule s.c s.least _ c.slots_fine.ensures (search rules) (ap not w.if-not-slots_fine.false) _ w.all_dummies.ensures (sym w.value-is ∙ c.if-not-all_dummies.true)
    ]

pub returns-else-not-all_dummies : goal.returns-else-not-all_dummies
returns-else-not-all_dummies c =
    let s = c.args in
    elim c.if-not-slots_fine.branch [
      | then-not-slots_fine w ↦
          absurd (true≢false (sym (ap not w.if-not-slots_fine.true) ∙ sym w.value-is ∙ c.if-not-all_dummies.false))
      | else-not-slots_fine w ↦
          stamps-told s.root.now s.r s.rule s.c s.least _ c.slots_fine.ensures (search rules) (ap not w.if-not-slots_fine.false) _ w.all_dummies.ensures _ (sym w.value-is ∙ c.if-not-all_dummies.false) c.stamp_twice.ensures
    ]
