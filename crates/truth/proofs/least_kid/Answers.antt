-- `least_kid` meets its contract. Assumes nothing.
use native.Mathlib.Omega.{arith}
use Rattle.truth.proofs.LevelLaws.{kids-none, kids-both}
use Rattle.truth.proofs.least_kid.Goals as goal

pub returns-then-level-sizes : goal.returns-then-level-sizes
returns-then-level-sizes c = λ rule. kids-none _ _ _ _ _ _ rule (omega arith)

pub returns : goal.returns
returns c = λ rule.
    let s = c.args in
    kids-both s.sizes.h s.leaf s.sizes.z s.path.now s.sibs.now s.level c.if-level-sizes.false c.requires.0.buckets c.requires.1 rule _ _ _ _ c.bucket_at.ensures c.read-own.ensures c.read-other.ensures (c.kids_least.ensures rule)
