-- The live events in the order of insertion, and what each finished request makes of them: document 01, "A request, step by
-- step". Assumes nothing.
use Rattle.std.specs.Prelude.{cond, List, [], ◌∷◌, ◌++◌}
use Rattle.record.specs.declared.Record.{Record}
use Rattle.record.specs.Standing.{record_of}
use Rattle.record.specs.Order.{smallest}
use Rattle.clearing.specs.Removal.{named, found}
use Rattle.parts.specs.declared.Parts.{Parts}
use Rattle.parts.specs.Parts.{rule_of, next_stamp}
use Rattle.request.specs.declared.Request.{Request}
use Rattle.request.specs.declared.Request.TheVariants.{Insert, Extract, Delete}
use Rattle.good.specs.Live.{without}

-- p are the parts of the card on which the request waits
unfoldable pub live_after : Parts → List Record → Request → List Record
live_after p live (Insert key value label first second) = live ++ (record_of key value label (next_stamp p) ∷ [])
live_after p live Extract = without (smallest (rule_of p) live).stamp live
live_after p live (Delete label stamp) = cond (found (named label stamp) live) (without stamp live) live
