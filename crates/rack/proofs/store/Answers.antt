-- `rack::store` meets its contract: where nothing is refused, the counts cover buckets of the tree. Assumes nothing.
use native.Mathlib.Omega.{arith}
use mathlib.Core.Path.{sym}
use Rattle.copies.proofs.CoverLaws.{whole-covered}
use Rattle.rack.proofs.RefusalLaws.{copy-passes}
use Rattle.rack.proofs.StandLaws.{copy_covered}
use Rattle.rack.proofs.store.Goals as goal

pub store_listed-requires-clause-covered : goal.store_listed-requires-clause-covered
store_listed-requires-clause-covered c =
    whole-covered _ _ (copy_covered (copy-passes _ _ _ _ _ _ _ (sym c.in_ok-of_copy.ensures)))

pub store_listed-requires-clause-z_in_bounds : goal.store_listed-requires-clause-z_in_bounds
store_listed-requires-clause-z_in_bounds c =
    omega (arith, (copy-passes _ _ _ _ _ _ _ (sym c.in_ok-of_copy.ensures)).room)
