-- `rack::fetch` meets its contract: where nothing is refused, the counts cover buckets of the tree. Assumes nothing.
use mathlib.Core.Path.{sym}
use Rattle.rack.proofs.RefusalLaws.{copy-passes}
use Rattle.rack.proofs.StandLaws.{copy_covered}
use Rattle.rack.proofs.fetch.Goals as goal

pub fetch_listed-requires-clause-covered : goal.fetch_listed-requires-clause-covered
fetch_listed-requires-clause-covered c = copy_covered (copy-passes _ _ _ _ _ _ _ (sym c.in_ok-of_copy.ensures))

pub fetch_listed-requires-clause-least_in_bounds : goal.fetch_listed-requires-clause-least_in_bounds
fetch_listed-requires-clause-least_in_bounds c = (copy-passes _ _ _ _ _ _ _ (sym c.in_ok-of_copy.ensures)).room
