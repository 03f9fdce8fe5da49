-- What the loops that check have seen so far: levels of a path, and records of a bucket's part. Assumes nothing.
use Prim.Native.Nat.{ℕ, suc, ◌+◌, ◌*◌, ◌-◌, ◌≤◌, ◌<◌}
use mathlib.Core.Bool.{Bool, true, false}
use mathlib.Core.List.{List, ◌∷◌}
use mathlib.Core.Path.{◌≡◌, refl, sym, ◌∙◌}
use native.Mathlib.Numerals.{add-one}
use native.Mathlib.Omega.{arith}
use lib.ListN.{length, take, drop}
use Rattle.record.specs.Words.{records}
use Rattle.record.specs.Many.{every}
use Rattle.path.specs.Path.{up_from}
use Rattle.path.specs.Layout.{bucket_words}
use Rattle.gather.proofs.ShownLaws.{fewer, whole-records}
use Rattle.sound.specs.Fetched.{shown_in}

-- All levels from `from` up to d, which is not looked at yet, have passed.
pub record Passed (f : ℕ → Bool) (h from d : ℕ) : Type 0 where
  pub since : from ≤ d
  pub left : every f (up_from from (suc h - from)) ≡ every f (up_from d (suc h - d))

module _ (f : ℕ → Bool) (h from : ℕ) where
  pub passed-starts : Passed f h from from
  passed-starts = record { since = omega arith; left = refl }

  module _ (d : ℕ) (p : Passed f h from d) where
    next : d ≤ h → up_from d (suc h - d) ≡ d ∷ up_from (suc d) (suc h - suc d)
    unfolding up_from
    next l = let e : suc h - d ≡ suc (suc h - suc d) = omega arith in rw e

    pub passed-turns : d ≤ h → f d ≡ true → Passed f h from (d + 1)
    unfolding every
    passed-turns l t = record { since = omega arith; left = p.left ∙ rw (next l, t, add-one) }

    pub passed-fails : d ≤ h → f d ≡ false → false ≡ every f (up_from from (suc h - from))
    unfolding every
    passed-fails l t = sym (p.left ∙ rw (next l, t))

    pub passed-ends : h < d → true ≡ every f (up_from from (suc h - from))
    unfolding every up_from
    passed-ends l = let e : suc h - d ≡ 0 = omega arith in sym (p.left ∙ rw e)

-- levels from 1 on are h levels
pub from_one : (f : ℕ → Bool) (h : ℕ) → every f (up_from 1 (suc h - 1)) ≡ every f (up_from 1 h)
from_one f h = let e : suc h - 1 ≡ h = omega arith in rw e

-- ---- level d of a path in its part of the words
module _ (z : ℕ) (path : List ℕ) (h d : ℕ) (room : 4 * (h * (z + 1)) ≤ length path) (some : 1 ≤ d) (most : d ≤ h) where
  pub level-room : 4 * ((d - 1 + 1) * (z + 1)) ≤ length path
  level-room = fewer z (d - 1 + 1) h room (omega arith)

  -- its bucket's part, of so many words
  pub bucket-shown : (size : ℕ) → size ≡ bucket_words z
      → records (take ((d - 1) * size + size - (d - 1) * size) (drop ((d - 1) * size) path)) ≡ (shown_in z path d).least ∷ (shown_in z path d).slots
  bucket-shown size e =
      let n : (d - 1) * bucket_words z + bucket_words z - (d - 1) * bucket_words z ≡ bucket_words z = omega arith in
      let a : (d - 1) * bucket_words z ≡ 4 * ((d - 1) * (z + 1)) = omega arith in
      rw (e, n, a) (whole-records z path (d - 1) level-room)

  -- and it lies within the path's
  pub part_within : (size : ℕ) → size ≡ bucket_words z → (d - 1) * size + size ≤ length path
  part_within size e = rw e (omega (arith, level-room))
