-- `stamp_twice`: no record looked at so far has a stamp that stands again behind it. Assumes nothing.
use mathlib.Core.Path.{◌≡◌}
use lib.ListN.{drop}
use Rattle.record.specs.Many.{stamp_twice}
use Rattle.record.specs.Words.{records}
use Rattle.stamps.proofs.stamp_twice.Given as goal

abbrev pub invariant-loop-i : goal.invariant-loop-i
invariant-loop-i l = stamp_twice (records l.w) ≡ stamp_twice (drop l.i (records l.w))
