-- `clear` meets its contract. Assumes nothing.
use native.Mathlib.Omega.{arith}
use mathlib.Core.Path.{sym, ◌∙◌}
use Rattle.record.proofs.WordsLaws.{records-count}
use Rattle.way.proofs.EvictLaws.{placed-is}
use Rattle.clearing.proofs.RemovalLaws.{clear-found, clear_none}
use Rattle.clearing.proofs.clear.Goals as goal
use Rattle.clearing.proofs.clear.Goals.{in-Some, in_default}

pub write-requires : goal.write-requires
write-requires c =
    omega (arith, records-count c.args.w.now, placed-is _ _ _ (sym c.in-Some.is ∙ c.find-found.ensures))

pub returns : goal.returns
returns c =
    elim c.match-found.branch [
      | in-Some w ↦
          rw (c.is_some.ensures, w.found-is, w.w-is, w.write.ensures) (clear-found _ _ _ (sym w.in-Some.is ∙ c.find-found.ensures))
      | in_default w ↦
          rw (c.is_some.ensures, w.found-is, w.in_default.is, w.w-is) (clear_none _ _ (sym w.in_default.is ∙ c.find-found.ensures))
    ]
