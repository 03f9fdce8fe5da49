-- `least_over`: the least of the slots from k on, and of the one after them. Assumes nothing.
use Prim.Native.Nat.{◌≤◌}
use mathlib.Core.Path.{◌≡◌}
use lib.ListN.{take, drop}
use Rattle.record.specs.declared.Rule.{Rule}
use Rattle.record.specs.Words.{records}
use Rattle.least.specs.Least.{over}
use Rattle.least.proofs.least_over.Given as goal

abbrev pub invariant-loop-k : goal.invariant-loop-k
invariant-loop-k l =
    (l.k ≤ l.n) × ((rule : Rule) → l.least ≡ over rule (drop l.k (take l.n (drop l.from (records l.w)))) l.initial.least)
