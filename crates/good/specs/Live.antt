-- The live events as a list, in the order of insertion: that order, and the list when one goes. Assumes nothing.
use Rattle.std.specs.Prelude.{cond, ◌<◌, eqb}
use mathlib.Core.List.{List, [], ◌∷◌, Memᴰ}
use Rattle.record.specs.declared.Stamp.{Stamp}
use Rattle.record.specs.declared.Record.{Record}

-- all but the first with this stamp
unfoldable pub without : Stamp → List Record → List Record
without s [] = []
without s (x ∷ xs) = cond (eqb x.stamp.0 s.0) xs (x ∷ without s xs)

-- the order of insertion is the order of stamps: each has a smaller stamp than all that stand behind it
pub data Ascending : List Record → Type 0 where
  none : Ascending []
  more : {x : Record} {xs : List Record} → ((y : Record) → Memᴰ y xs → x.stamp.0 < y.stamp.0) → Ascending xs → Ascending (x ∷ xs)
