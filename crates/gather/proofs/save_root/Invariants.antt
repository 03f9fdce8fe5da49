-- `save_root` meets its contract: the loop has put back the way's first i slots. Assumes nothing.
use Rattle.record.specs.Words.{records}
use Rattle.gather.proofs.Loading.{Saving}
use Rattle.gather.proofs.save_root.Given as goal

abbrev pub invariant-loop-i : goal.invariant-loop-i
invariant-loop-i l = Saving (records l.w) l.initial.slot-items l.slot-items l.i
