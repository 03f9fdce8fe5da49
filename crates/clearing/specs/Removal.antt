-- What ExtractMin and Delete do to a way before it is evicted: document 01, "A request, step by step". Assumes nothing.
use Rattle.std.specs.Prelude.{ℕ, Bool, not, ◌&&◌, List, ◌≡◌, ltb, eqb, length, set}
use Rattle.record.specs.declared.Leaf.{Leaf}
use Rattle.record.specs.declared.Stamp.{Stamp}
use Rattle.record.specs.declared.Record.{Record}
use Rattle.record.specs.Standing.{dummy, is_dummy}
use Rattle.record.specs.Words.{records}
use Rattle.way.specs.Evict.{seek}
use Rattle.gather.specs.Laid.{laid_over}

-- "the record that has this label and stamp"
unfoldable pub named : Leaf → Stamp → Record → Bool
named l s r = not (is_dummy r) && (eqb r.label.0 l.0 && eqb r.stamp.0 s.0)

-- whether some record of the way passes
unfoldable pub found : (Record → Bool) → List Record → Bool
found f w = ltb (seek f (length w) w) (length w)

-- the first that passes, replaced by the dummy; "or answers Absent and removes nothing"
unfoldable pub removed : (Record → Bool) → List Record → List Record
removed f w = set w (seek f (length w) w) dummy

-- a way in words, before and after, and the answer whether it was found
pub record Cleared (f : Record → Bool) (before after : List ℕ) (answer : Bool) : Type 0 where
  pub answered : answer ≡ found f (records before)
  pub words : after ≡ laid_over before 0 (removed f (records before))
