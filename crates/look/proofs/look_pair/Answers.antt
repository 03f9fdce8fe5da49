use borrow.Author.Rules.{rules}
use native.Mathlib.Omega.{arith}
use Prim.Native.Nat.{◌+◌, ◌-◌}
use mathlib.Core.Path.{ap}
use Rattle.record.specs.declared.Rule.{Rule}
use Rattle.look.proofs.PairLaws.{first-room, second-room, pair-looks}
use Rattle.look.proofs.look_pair.Goals as goal

pub pair_damaged-pair_bad-requires : goal.pair_damaged-pair_bad-requires
pair_damaged-pair_bad-requires c =
    let s = c.args in
    let n = c.path_words-half.result in
    let e = c.path_words-half.ensures.0 in
    let p = c.requires in
    record { room = (first-room s.parts.sizes s.first s.second s.words.now s.w.now s.beside.now p n e (n - 0) (omega arith), omega (arith, p.siblings, c.show_pair-moved.auto.one)); room_2 = (second-room s.parts.sizes s.first s.second s.words.now s.w.now s.beside.now p n e (n + n - n) (omega arith), search rules); r_in_bounds = (search rules, ap (λ (r : Rule). r.leaves) c.rule.ensures) }

pub returns : goal.returns
returns c =
    let s = c.args in
    let n = c.path_words-half.result in
    pair-looks s.parts.sizes s.first s.second s.words.now s.w.now s.beside.now c.requires n c.path_words-half.ensures.0 s.root _ _ _ _ _ c.show_pair-moved.ensures s.parts.t s.parts.c s.parts.least _ c.rule.ensures (n - 0) (n + n - n) _ (omega arith) (omega arith) c.pair_damaged-pair_bad.ensures _ c.told.ensures
