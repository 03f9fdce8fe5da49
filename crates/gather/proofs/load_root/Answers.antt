-- `load_root` meets its contract: the loop has laid the root's first i slots. Assumes nothing.
use borrow.Author.Rules.{rules}
use native.Mathlib.Omega.{arith}
use mathlib.Core.Path.{◌≡◌}
use lib.ListN.{length}
use lib.Seq.{length-take-le}
use Rattle.gather.proofs.Loading.{laying-starts, root-turns}
use Rattle.gather.proofs.load_root.Goals as goal

pub loop-i-init : goal.loop-i-init
loop-i-init c = laying-starts _ _

pub loop-i-preserved : goal.loop-i-preserved
loop-i-preserved c =
    let s = c.args in
    let l : length s.root ≡ 64 = search rules in
    let n = length-take-le s.r s.root (omega arith) in
    root-turns _ _ _ _ _ _ c.loop-i.invariant c.loop-i-test.true (omega arith) c.write.ensures
