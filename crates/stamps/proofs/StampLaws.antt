-- A stamp looked for record by record, and records looked at one by one for a stamp that stands again. Assumes nothing.
use Prim.Native.Nat.{ℕ, ◌+◌, ◌/◌, ◌≤◌, ◌<◌}
use mathlib.Core.Bool.{Bool, true, false, not}
use mathlib.Core.List.{List}
use mathlib.Core.Path.{◌≡◌}
use lib.ListN.{length, drop}
use Rattle.record.specs.declared.Stamp.{Stamp}
use Rattle.record.specs.Many.{every, bears, stamp_twice}
use Rattle.record.specs.Standing.{is_dummy}
use Rattle.record.specs.Words.{record_at, records}
use Rattle.record.proofs.ManyLaws.{borne-none, borne-here, borne-later, twice-none, twice-dummy, twice-here, twice-later}
use Rattle.record.proofs.WordsLaws.{records-next, records-end}

-- a record from place i on has this stamp
abbrev pub borne_from : List ℕ → Stamp → ℕ → Bool
borne_from w s i = not (every (λ y. not (bears s y)) (drop i (records w)))

module _ (w : List ℕ) (s : Stamp) (i : ℕ) where
  pub borne-found : i < length w / 4 → bears s (record_at w i) ≡ true → true ≡ borne_from w s i
  borne-found l b = rw (records-next w i l, borne-here s (record_at w i) (drop (i + 1) (records w)) b)

  pub borne-turns : i < length w / 4 → bears s (record_at w i) ≡ false → borne_from w s i ≡ borne_from w s (i + 1)
  borne-turns l b = rw (records-next w i l, borne-later s (record_at w i) (drop (i + 1) (records w)) b)

  pub borne-ends : length w / 4 ≤ i → false ≡ borne_from w s i
  borne-ends l = rw (records-end w i l, borne-none s)

module _ (w : List ℕ) (i : ℕ) where
  pub twice_found : i < length w / 4 → is_dummy (record_at w i) ≡ false → borne_from w (record_at w i).stamp (i + 1) ≡ true
      → true ≡ stamp_twice (drop i (records w))
  twice_found l d b = rw (records-next w i l, twice-here (record_at w i) (drop (i + 1) (records w)) d b)

  pub twice-skips : i < length w / 4 → is_dummy (record_at w i) ≡ true
      → stamp_twice (drop i (records w)) ≡ stamp_twice (drop (i + 1) (records w))
  twice-skips l d = rw (records-next w i l, twice-dummy (record_at w i) (drop (i + 1) (records w)) d)

  pub twice-turns : i < length w / 4 → borne_from w (record_at w i).stamp (i + 1) ≡ false
      → stamp_twice (drop i (records w)) ≡ stamp_twice (drop (i + 1) (records w))
  twice-turns l b = rw (records-next w i l, twice-later (record_at w i) (drop (i + 1) (records w)) b)

  pub twice_ends : length w / 4 ≤ i → false ≡ stamp_twice (drop i (records w))
  twice_ends l = rw (records-end w i l, twice-none)
