-- Least records of a way: `over` against `smallest`, a fold from the last slot to the first, and the slots of a level.
-- Assumes nothing.
use Prim.Native.Nat.{ℕ, ◌+◌, ◌*◌, ◌-◌, ◌≤◌, ◌<◌}
use mathlib.Core.List.{List, [], ◌∷◌, ◌++◌}
use mathlib.Core.Path.{◌≡◌, refl, ap}
use native.Mathlib.Omega.{arith}
use lib.ListN.{length, take, drop, length-drop, drop_of_length-le}
use lib.Seq.{length-take-le}
use Rattle.record.specs.declared.Record.{Record}
use Rattle.record.specs.declared.Rule.{Rule}
use Rattle.record.specs.Words.{record_at, records}
use Rattle.record.specs.Order.{smaller, smallest, smallest_by}
use Rattle.least.specs.Least.{slots_at, over}
use Rattle.way.proofs.WayLaws.{part_length, part-next, level_before}

-- the smallest of some and of those that stand after them
pub smallest-over : (rule : Rule) (xs ys : List Record) → smallest rule (xs ++ ys) ≡ over rule xs (smallest rule ys)
unfolding over smallest_by
smallest-over rule [] ys = refl
smallest-over rule (x ∷ xs) ys = ap (smaller rule x) (smallest-over rule xs ys)

-- n records from a place on, of which those from k on have been looked at
module _ (rule : Rule) (w : List ℕ) (from n : ℕ) (h : 4 * (from + n) ≤ length w) (last : Record) where
  pub over-starts : last ≡ over rule (drop n (take n (drop from (records w)))) last
  unfolding over
  over-starts = rw (drop_of_length-le (take n (drop from (records w))) {i = n} (omega (arith, part_length w from n h)))

  pub over-turns : (k : ℕ) (least : Record) → 0 < k → k ≤ n → least ≡ over rule (drop k (take n (drop from (records w)))) last
      → smaller rule (record_at w (from + (k - 1))) least ≡ over rule (drop (k - 1) (take n (drop from (records w)))) last
  unfolding over
  over-turns k least p l e =
      let back : k - 1 + 1 ≡ k = omega arith in
      rw (part-next w from n h (k - 1) (omega arith), back, e)

-- how many slots a level has
pub length-slots : (r z : ℕ) (w : List Record) (d : ℕ) → 1 ≤ d → r + z * d ≤ length w → length (slots_at r z w d) ≡ z
unfolding slots_at
length-slots r z w d p l =
    let room : r + z * (d - 1) + z ≤ length w = omega (arith, level_before z d p) in
    length-take-le z (drop (r + z * (d - 1)) w) (omega (arith, length-drop (r + z * (d - 1)) w))
