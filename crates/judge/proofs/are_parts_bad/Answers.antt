use native.Mathlib.Omega.{arith}
use mathlib.Core.Path.{sym, ap, ◌∙◌}
use mathlib.Core.Bool.{not}
use borrow.Author.Tests.{lt-ltb, le-ltb}
use Rattle.record.specs.declared.Rule.{Rule}
use Rattle.record.specs.Words.{records}
use Rattle.path.proofs.SizesLaws.{in-range}
use Rattle.judge.proofs.JudgeLaws.{bad-in-turn}
use Rattle.judge.proofs.are_parts_bad.Goals.{then-parts-sizes-via-then-parts-sizes, then-parts-sizes-via-else-parts-sizes+then-parts-rule, then-parts-sizes-via-else-parts-sizes+else-parts-rule+then-parts}
use Rattle.judge.proofs.are_parts_bad.Goals as goal

pub returns-then-not-in_range : goal.returns-then-not-in_range
returns-then-not-in_range c =
    rw (bad-in-turn c.args.parts (records c.args.root.now), ap not (sym c.in_range.ensures ∙ c.if-not-in_range.true))

pub rule-rule-requires : goal.rule-rule-requires
rule-rule-requires c =
    omega (arith, (in-range c.args.parts.sizes (sym c.in_range.ensures ∙ c.if-not-in_range.false)).tree.height.1)

pub returns-then-parts-sizes : goal.returns-then-parts-sizes
returns-then-parts-sizes c =
    rw (bad-in-turn c.args.parts (records c.args.root.now), ap not (sym c.in_range.ensures ∙ c.if-not-in_range.false))
    (elim c.then-parts-sizes.branch [
      | then-parts-sizes-via-then-parts-sizes w ↦ rw (lt-ltb _ _ w.if-parts-sizes.true)
      | then-parts-sizes-via-else-parts-sizes+then-parts-rule w ↦
          rw (le-ltb _ _ w.if-parts-sizes.false, lt-ltb _ _ (rw (ap (λ (r : Rule). r.leaves) c.rule-rule.ensures) at w.if-parts-rule.true))
      | then-parts-sizes-via-else-parts-sizes+else-parts-rule+then-parts w ↦
          rw (le-ltb _ _ w.if-parts-sizes.false, le-ltb _ _ (rw (ap (λ (r : Rule). r.leaves) c.rule-rule.ensures) at w.if-parts-rule.false), lt-ltb _ _ w.if-parts.true)
    ])

pub is_root_bad-requires : goal.is_root_bad-requires
is_root_bad-requires c =
    (in-range c.args.parts.sizes (sym c.in_range.ensures ∙ c.if-not-in_range.false)).roots.1

pub returns-then-is_root_bad : goal.returns-then-is_root_bad
returns-then-is_root_bad c =
    rw (bad-in-turn c.args.parts (records c.args.root.now), ap not (sym c.in_range.ensures ∙ c.if-not-in_range.false), le-ltb _ _ c.if-parts-sizes.false, le-ltb _ _ (rw (ap (λ (r : Rule). r.leaves) c.rule-rule.ensures) at c.if-parts-rule.false), le-ltb _ _ c.if-parts.false, c.if-is_root_bad.true, rw c.rule-rule.ensures at (sym c.is_root_bad.ensures ∙ c.if-is_root_bad.true))

pub returns-else-is_root_bad : goal.returns-else-is_root_bad
returns-else-is_root_bad c =
    rw (bad-in-turn c.args.parts (records c.args.root.now), ap not (sym c.in_range.ensures ∙ c.if-not-in_range.false), le-ltb _ _ c.if-parts-sizes.false, le-ltb _ _ (rw (ap (λ (r : Rule). r.leaves) c.rule-rule.ensures) at c.if-parts-rule.false), le-ltb _ _ c.if-parts.false, rw c.rule-rule.ensures at (sym c.is_root_bad.ensures ∙ c.if-is_root_bad.false)) (rw c.rule-rule.ensures at c.is_least_odd.ensures)
