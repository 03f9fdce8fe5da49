-- `sitting::feeding::feed` meets its contract. The loop: `Feeding`. Assumes nothing.
use Prim.Native.Nat.{◌-◌}
use lib.ListN.{length, take}
use Rattle.output.proofs.FeedLaws.{Feeding}
use Rattle.sitting.proofs.feeding.feed.Given as goal

abbrev pub invariant-loop-line : goal.invariant-loop-line
invariant-loop-line l =
    Feeding (record { desk = l.initial.desk; tree = l.initial.tree }) (take l.initial.held l.initial.line) l.chunk l.initial.out (record { desk = l.desk; tree = l.tree }) l.line l.held l.taken l.written l.out

abbrev pub decreases-loop-line : goal.decreases-loop-line
decreases-loop-line l = length l.chunk - l.taken
