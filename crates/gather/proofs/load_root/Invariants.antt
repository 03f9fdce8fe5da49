-- `load_root` meets its contract: the loop has laid the root's first i slots. Assumes nothing.
use lib.ListN.{take}
use Rattle.gather.proofs.Loading.{Laying}
use Rattle.gather.proofs.load_root.Given as goal

abbrev pub invariant-loop-i : goal.invariant-loop-i
invariant-loop-i l = Laying l.initial.w 0 (take l.i l.record-items) l.w
