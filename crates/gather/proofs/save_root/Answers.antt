-- `save_root` meets its contract: the loop has put back the way's first i slots. Assumes nothing.
use borrow.Author.Rules.{rules}
use native.Mathlib.Omega.{arith}
use mathlib.Core.Path.{◌≡◌, sym, ◌∙◌}
use lib.ListN.{length}
use lib.Seq.{length-take-le}
use Rattle.record.specs.Standing.{dummy}
use Rattle.record.proofs.WordsLaws.{records-at, records-long}
use Rattle.gather.proofs.Loading.{saving-turns}
use Rattle.gather.proofs.save_root.Goals as goal

pub loop-i-preserved : goal.loop-i-preserved
loop-i-preserved c =
    let s = c.args in
    let l : length s.root ≡ 64 = search rules in
    let m = length-take-le s.r s.root (omega arith) in
    let n = records-long s.w.now s.r (omega arith) in
    let e = records-at s.w.now c.loop-i.i dummy (omega arith) in
    saving-turns _ _ _ _ _ dummy c.loop-i.invariant (omega arith) (omega arith) (c.read.ensures ∙ sym e)
