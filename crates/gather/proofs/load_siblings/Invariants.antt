-- `load_siblings` meets its contract: the loop has laid and counted so many siblings. Assumes nothing.
use Prim.Native.Nat.{◌*◌, ◌-◌}
use mathlib.Core.Path.{◌≡◌}
use Rattle.gather.specs.Shown.{siblings_shown}
use Rattle.gather.proofs.Loading.{Laying}
use Rattle.gather.proofs.load_siblings.Given as goal

abbrev pub invariant-loop-i : goal.invariant-loop-i
invariant-loop-i l =
    (l.moved ≡ l.i * 4) × Laying l.initial.sibs (l.level - 1) (siblings_shown l.fn.sizes.z l.words l.whole l.skip l.i) l.sibs
