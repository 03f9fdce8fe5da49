-- `lines_examples::feed` meets its contract. The loop: what is held fits, and the buffer keeps its length. Assumes nothing.
use Rattle.std.proofs.Common.{length, ◌-◌, ◌≤◌, ◌≡◌}
use Rattle.lines_examples.proofs.feed.Given as goal

abbrev pub invariant-loop-from : goal.invariant-loop-from
invariant-loop-from g l = (l.held ≤ length l.initial.buffer) × (length l.buffer ≡ length l.initial.buffer)

abbrev pub decreases-loop-from : goal.decreases-loop-from
decreases-loop-from g l = length l.chunk - l.from
