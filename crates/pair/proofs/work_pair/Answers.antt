use native.Mathlib.Omega.{arith}
use mathlib.Core.Path.{◌≡◌, ◌∙◌}
use Rattle.record.specs.Words.{record_at}
use Rattle.pair.proofs.PairLaws.{top_read, pair-worked}
use Rattle.pair.proofs.work_pair.Goals as goal

pub returns : goal.returns
returns c = λ rule.
    let s = c.args in
    let room = c.requires in
    let top : c.read-top.result ≡ record_at c.work_path.new.path 0 = c.read-top.ensures in
    pair-worked rule s.sizes s.first s.second s.new s.w.now s.beside.now s.words.now room.one.sizes.height.0 room.one.siblings
    _ _ _ c.load_siblings.ensures.laid c.write.ensures (top ∙ top_read rule s.sizes s.first s.second s.new s.w.now s.beside.now s.words.now room.one.sizes.height.0 room.one.siblings _ _ _ _ c.seat.ensures (c.work_path.ensures rule))
    _ _ _ _ _ _ _ _ (c.work_path.auto.w ∙ c.seat.auto.w ∙ room.one.slots) (omega (arith, room.fetched))
    c.seat.ensures (c.work_path.ensures rule) c.load_path.ensures (c.work_path-2.ensures rule)
