-- When a request is refused: document 01, "Refusal numbers", numbers 4 to 10, in their order. A request that waits and one
-- that is begun are judged by the same table, as if none waited. Assumes nothing.
use Rattle.std.specs.Prelude.{ℕ, ◌/◌, Bool, true, false, not, ◌||◌, List, [], ◌∷◌, ltb, leb, eqb, Option, None, Some}
use Rattle.record.specs.declared.Leaf.{Leaf}
use Rattle.record.specs.declared.Stamp.{Stamp}
use Rattle.record.specs.declared.Record.{Record}
use Rattle.record.specs.Standing.{dummy_key, known}
use Rattle.path.specs.Sizes.{leaves_of}
use Rattle.root.specs.Root.{root_full}
use Rattle.refusal.specs.Refusal.{Refusal, row}
use Rattle.parts.specs.declared.Parts.{Parts}
use Rattle.parts.specs.Parts.{rule_of}
use Rattle.request.specs.declared.Request.{Request}
use Rattle.request.specs.declared.Request.TheVariants.{Insert, Extract, Delete}

-- "label N or more"
abbrev pub bad_label : ℕ → Leaf → Bool
bad_label n label = leb n label.0

-- "an eviction leaf outside its half": "the first below N/2, the second from N/2 to N-1"
abbrev pub bad_halves : ℕ → Leaf → Leaf → Bool
bad_halves n first second = leb (n / 2) first.0 || (ltb second.0 (n / 2) || leb n second.0)

-- Insert, ExtractMin and Delete on a card of these parts, whatever its least record is; of the root only an Insert asks
module _ (p : Parts) where
  unfoldable pub insert_rows : List Record → ℕ → Leaf → Leaf → Leaf → List Refusal
  insert_rows root key label first second =
      row 4 (eqb p.t p.sizes.t)
      ∷ row 5 (eqb key dummy_key)
      ∷ row 6 (bad_label (leaves_of p.sizes.h) label || bad_halves (leaves_of p.sizes.h) first second)
      ∷ row 9 (eqb p.c (leaves_of p.sizes.h))
      ∷ row 10 (root_full p.sizes.r root)
      ∷ []

  unfoldable pub extract_rows : List Refusal
  extract_rows = row 4 (eqb p.t p.sizes.t) ∷ row 8 (eqb p.c 0) ∷ []

  unfoldable pub delete_rows : Leaf → Stamp → List Refusal
  delete_rows label stamp =
      row 4 (eqb p.t p.sizes.t)
      ∷ row 6 (bad_label (leaves_of p.sizes.h) label)
      ∷ row 7 (not (known (rule_of p) stamp))
      ∷ []

  unfoldable pub request_rows : List Record → Request → List Refusal
  request_rows root (Insert key value label first second) = insert_rows root key label first second
  request_rows root Extract = extract_rows
  request_rows root (Delete label stamp) = delete_rows label stamp

  -- of what waits, as if it were begun
  abbrev pub waiting_rows : List Record → Option Request → List Refusal
  waiting_rows root None = []
  waiting_rows root (Some request) = request_rows root request

-- whether a request waits
unfoldable pub waits : Option Request → Bool
waits None = false
waits (Some request) = true
