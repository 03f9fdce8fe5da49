use native.Mathlib.Omega.{arith}
use borrow.Author.Rules.{rules}
use Prim.Native.Nat.{◌+◌}
use mathlib.Core.Path.{◌∙◌}
use Rattle.lists.proofs.Naming.{naming-starts, path-turns, path-ends}
use Rattle.lists.proofs.name.Goals as goal
use Rattle.lists.proofs.name.Goals.{else-loop-level-test, then-loop-level-test+else-level-level-end}

pub loop-level-init : goal.loop-level-init
loop-level-init g c = (omega arith, λ f gives. naming-starts _ _ _ _)

pub loop-level-preserved : goal.loop-level-preserved
loop-level-preserved g c = (
  omega arith,
  λ f gives.
      path-turns f _ _ _ _ _ _ _ _ _ (c.loop-level.invariant.1 f gives) c.loop-level.auto.level (omega arith) c.bucket_at.ensures (gives _ _ (search rules) c.of.ensures),
)

-- the loop ends in the turn of the leaf's level, or has none
pub returns : goal.returns
returns g c = λ f gives.
    let n = c.loop-level.invariant.1 f gives in
    elim c.loop-level-test.branch [
      | else-loop-level-test w ↦ w.list-is ∙ path-ends f _ _ _ _ _ _ _ (omega arith) n
      | then-loop-level-test+else-level-level-end w ↦
          w.list-is ∙ path-ends f _ _ _ _ _ _ (c.loop-level.level + 1) (omega arith)
          (path-turns f _ _ _ _ _ _ _ _ _ n c.loop-level.auto.level (omega arith) w.bucket_at.ensures (gives _ _ (search rules) w.of.ensures))
    ]
