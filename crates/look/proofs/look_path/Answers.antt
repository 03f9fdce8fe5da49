use native.Mathlib.Omega.{arith}
use Prim.Native.Nat.{◌-◌}
use mathlib.Core.Path.{ap}
use Rattle.record.specs.declared.Rule.{Rule}
use Rattle.look.proofs.PathLaws.{lent-room, path-looks}
use Rattle.look.proofs.look_path.Goals as goal

pub path_damaged-path_bad-requires : goal.path_damaged-path_bad-requires
path_damaged-path_bad-requires c =
    let s = c.args in
    let n = c.path_words-buckets.result in
    let p = c.requires in
    record { room = (lent-room s.parts.sizes s.leaf s.words.now s.w.now s.sibs.now n (n - 0) p c.path_words-buckets.ensures.0 (omega arith), (omega (arith, p.siblings, c.show_path-moved.auto.sibs), omega (arith, p.slots, c.show_path-moved.auto.w))); leaves_value = ap (λ (r : Rule). r.leaves) c.rule.ensures }

pub returns : goal.returns
returns c =
    let s = c.args in
    let n = c.path_words-buckets.result in
    path-looks s.parts.sizes s.leaf s.words.now s.w.now s.sibs.now c.requires n (n - 0) c.path_words-buckets.ensures.0 (omega arith) s.root _ _ _ c.show_path-moved.ensures s.parts.t s.parts.c s.parts.least _ c.rule.ensures _ c.path_damaged-path_bad.ensures _ c.told.ensures
