-- What a scratch holds once it is loaded: the way that card and fetched words show, and the siblings' least records, level
-- by level. Assumes nothing.
use Prim.Native.Nat.{ℕ, ◌+◌, ◌*◌, ◌-◌, ◌≤◌}
use mathlib.Core.List.{List}
use mathlib.Core.Path.{◌≡◌, ap, ◌∙◌}
use native.Mathlib.Omega.{arith}
use lib.ListN.{length, get_or, take}
use lib.Seq.{length-take-le, take_at}
use Rattle.record.specs.declared.Record.{Record}
use Rattle.record.specs.Standing.{dummy}
use Rattle.record.specs.Words.{records}
use Rattle.gather.specs.Laid.{laid_over}
use Rattle.gather.specs.Shown.{sibling_at, siblings_shown, slots_shown, way_shown}
use Rattle.gather.proofs.LaidLaws.{laid-length, laid-records, laid-last, laid-at}
use Rattle.gather.proofs.ShownLaws.{slots_length, siblings-length, siblings-at}

-- A path's slots behind the root's that stand there already. With a count of 2h for h, both paths of an Insert.
module _ (h z r : ℕ) (ws : List ℕ) (i : ℕ) (given : 4 * ((i + h) * (z + 1)) ≤ length ws) (w : List ℕ) (long : length w ≡ 4 * (r + z * h)) where
  pub path-loaded : records (laid_over w r (slots_shown z ws i h)) ≡ way_shown h z r (records w) ws i
  unfolding way_shown
  path-loaded =
      let n = slots_length z ws i h given in
      laid-last w r (slots_shown z ws i h) (omega arith) (omega arith)

-- the root's slots, then the path's
module _ (h z r : ℕ) (root : List Record) (ws : List ℕ) (i : ℕ) (full : r ≤ length root) (given : 4 * ((i + h) * (z + 1)) ≤ length ws)
    (w : List ℕ) (long : length w ≡ 4 * (r + z * h)) where
  pub way-loaded : (loaded : List ℕ) → loaded ≡ laid_over w 0 (take r root)
      → records (laid_over loaded r (slots_shown z ws i h)) ≡ way_shown h z r root ws i
  unfolding way_shown
  way-loaded loaded e =
      let n = length-take-le r root full in
      let room : 4 * (0 + length (take r root)) ≤ length w = omega arith in
      let l : length loaded ≡ 4 * (r + z * h) = ap length e ∙ laid-length w 0 (take r root) room ∙ long in
      path-loaded h z r ws i given loaded l ∙ rw (e, laid-records w 0 (take r root) room, take_at (take r root) _ r n)

-- the sibling's least record at level d stands at place d - 1
module _ (h z : ℕ) (ws : List ℕ) (whole skip level : ℕ) (sibs : List ℕ) (some : 1 ≤ level) (room : 4 * h ≤ length sibs) where
  pub sibling-loaded : (d : ℕ) → level ≤ d → d ≤ h
      → get_or (records (laid_over sibs (level - 1) (siblings_shown z ws whole skip (h + 1 - level)))) (d - 1) dummy
      ≡ sibling_at z ws whole (skip + (d - level))
  sibling-loaded d l m =
      let n = siblings-length z ws whole skip (h + 1 - level) in
      let e : d - 1 ≡ level - 1 + (d - level) = omega arith in
      rw (e, laid-at sibs (level - 1) (siblings_shown z ws whole skip (h + 1 - level)) (omega arith) (d - level) dummy (omega arith))
      (siblings-at z ws whole skip (h + 1 - level) (d - level) dummy (omega arith))
