-- `is_borne`: of the records looked at so far none has the stamp. Assumes nothing.
use mathlib.Core.Path.{◌≡◌}
use Rattle.stamps.proofs.StampLaws.{borne_from}
use Rattle.stamps.proofs.is_borne.Given as goal

abbrev pub invariant-loop-i : goal.invariant-loop-i
invariant-loop-i l = borne_from l.w l.stamp l.from ≡ borne_from l.w l.stamp l.i
