use Prim.Native.Nat.{suc, ◌≤◌}
use Rattle.record.specs.declared.Bucket.{Bucket}
use Rattle.lists.specs.BucketList.{Gives}
use Rattle.lists.proofs.Naming.{PathNamed}
use Rattle.lists.proofs.name.Given as goal

abbrev pub invariant-loop-level : goal.invariant-loop-level
invariant-loop-level g l =
    (l.level ≤ suc l.sizes.h)
    × ((f : Bucket → Bucket) → Gives (goal.F-post g) l.of f
    → PathNamed f l.sizes.h l.leaf l.from l.at l.initial.list l.list l.level)
