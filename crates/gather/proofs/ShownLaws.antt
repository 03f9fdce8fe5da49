-- What the fetched words show: how long, level by level, and in a part of the words. Assumes nothing.
use Prim.Native.Nat.{ℕ, zero, suc, ◌+◌, ◌*◌, ◌-◌, ◌≤◌, ◌<◌}
use mathlib.Core.Path.{◌≡◌, refl, ap, ◌∙◌}
use mathlib.Core.List.{List, [], ◌∷◌, ◌++◌, append_assoc, append-nil}
use native.Mathlib.Nat.{add-zero, add-suc, add_assoc, mul-le-mul_right}
use native.Mathlib.Numerals.{add-one}
use native.Mathlib.Omega.{arith}
use lib.ListN.{length, get_or, take, drop, length-append, length-drop, length-map}
use lib.Seq.{length-take-le, drop-cons, drop-drop, take_at, drop_at, take-add, get_or-take, get_or-drop}
use Rattle.record.specs.declared.Record.{Record}
use Rattle.record.specs.Standing.{dummy}
use Rattle.record.specs.Words.{records}
use Rattle.record.proofs.WordsLaws.{records-long, records-take, records-drop}
use Rattle.record.proofs.PartLaws.{part-within}
use Rattle.path.specs.Path.{up_from}
use Rattle.path.proofs.LevelLaws.{length-up_from, map-up_from-at}
use Rattle.least.specs.Least.{slots_at, root_slots}
use Rattle.way.proofs.WayLaws.{part_length}
use Rattle.gather.specs.Shown.{whole_at, sibling_at, siblings_shown, slots_shown, way_shown}

-- where some buckets are given, fewer are
pub fewer : (z m n : ℕ) {k : ℕ} → 4 * (n * (z + 1)) ≤ k → m ≤ n → 4 * (m * (z + 1)) ≤ k
fewer z m n h l = let e : m * (z + 1) ≤ n * (z + 1) = mul-le-mul_right (z + 1) l in omega arith

module _ (z : ℕ) (ws : List ℕ) where
  -- ---- slots
  pub slots-none : (i : ℕ) → slots_shown z ws i 0 ≡ []
  unfolding slots_shown
  slots-none i = refl

  -- one bucket more
  pub slots-more : (i k : ℕ) → slots_shown z ws i (k + 1) ≡ slots_shown z ws i k ++ take z (drop ((i + k) * (z + 1) + 1) (records ws))
  unfolding slots_shown whole_at
  slots-more i k = rw add-one

  pub whole_length : (i : ℕ) → 4 * ((i + 1) * (z + 1)) ≤ length ws → length (whole_at z ws i).slots ≡ z
  unfolding whole_at
  whole_length i h = part_length ws (i * (z + 1) + 1) z (omega arith)

  -- a bucket's part of the words holds its least record, then its slots
  pub whole-records : (i : ℕ) → 4 * ((i + 1) * (z + 1)) ≤ length ws
      → records (take (4 * (z + 1)) (drop (4 * (i * (z + 1))) ws)) ≡ (whole_at z ws i).least ∷ (whole_at z ws i).slots
  unfolding whole_at
  whole-records i h =
      let l = records-long ws ((i + 1) * (z + 1)) h in
      let n : i * suc z < length (records ws) = omega arith in
      rw (records-take, records-drop, add-one z, add-one (i * suc z), drop-cons (records ws) (i * suc z) dummy n)

  pub slots_length : (i k : ℕ) → 4 * ((i + k) * (z + 1)) ≤ length ws → length (slots_shown z ws i k) ≡ z * k
  unfolding slots_shown
  slots_length i zero h = omega arith
  slots_length i (suc k) h =
      let l : 4 * ((i + k + 1) * (z + 1)) ≤ length ws = omega arith in
      rw (length-append, slots_length i k (omega arith), whole_length (i + k) l) (omega arith)

  -- the buckets in two runs
  pub slots-split : (i j k : ℕ) → slots_shown z ws i (j + k) ≡ slots_shown z ws i j ++ slots_shown z ws (i + j) k
  unfolding slots_shown
  slots-split i j zero = rw (add-zero, append-nil)
  slots-split i j (suc k) = rw (add-suc, slots-split i j k, append_assoc, add_assoc)

  pub slots-one : (i : ℕ) → slots_shown z ws i 1 ≡ (whole_at z ws i).slots
  unfolding slots_shown
  slots-one i = rw add-zero

  -- one of them between the others
  slots-around : (i j k : ℕ)
      → slots_shown z ws i (j + (1 + k)) ≡ slots_shown z ws i j ++ ((whole_at z ws (i + j)).slots ++ slots_shown z ws (i + j + 1) k)
  slots-around i j k = rw (slots-split i j (1 + k), slots-split (i + j) 1 k, slots-one)

  -- ---- siblings
  -- they stand one behind the other
  pub siblings-part : (n i k : ℕ) → 4 * (n * (z + 1) + i + k) ≤ length ws
      → take k (drop (n * (z + 1) + i) (records ws)) ≡ siblings_shown z ws n i k
  unfolding siblings_shown sibling_at up_from
  siblings-part n i zero h = refl
  siblings-part n i (suc k) h =
      let l = records-long ws (n * (z + 1) + i + suc k) h in
      let e : suc (n * (z + 1) + i) ≡ n * (z + 1) + suc i = omega arith in
      rw (drop-cons (records ws) (n * (z + 1) + i) dummy (omega arith), e)
      (ap (λ (rs : List Record). sibling_at z ws n i ∷ rs) (siblings-part n (suc i) k (omega arith)))

  pub siblings-none : (n i : ℕ) → siblings_shown z ws n i 0 ≡ []
  unfolding siblings_shown up_from
  siblings-none n i = refl

  -- one sibling more
  pub siblings-more : (n i k : ℕ) → 4 * (n * (z + 1) + i + k + 1) ≤ length ws
      → siblings_shown z ws n i (k + 1) ≡ siblings_shown z ws n i k ++ take 1 (drop (n * (z + 1) + i + k) (records ws))
  siblings-more n i k h =
      rw (← siblings-part n i (k + 1) (omega arith), ← siblings-part n i k (omega arith), take-add k 1, drop-drop)

  pub siblings-length : (n i k : ℕ) → length (siblings_shown z ws n i k) ≡ k
  unfolding siblings_shown
  siblings-length n i k = length-map (up_from i k) (sibling_at z ws n) ∙ length-up_from i k

  pub siblings-at : (n i k j : ℕ) (d : Record) → j < k → get_or (siblings_shown z ws n i k) j d ≡ sibling_at z ws n (i + j)
  unfolding siblings_shown
  siblings-at n = map-up_from-at (sibling_at z ws n)

-- ---- a path's part of the words: k buckets from the i-th on
abbrev pub buckets_in : ℕ → List ℕ → ℕ → ℕ → List ℕ
buckets_in z ws i k = take (4 * (k * (z + 1))) (drop (4 * (i * (z + 1))) ws)

module _ (z : ℕ) (ws : List ℕ) (i k : ℕ) (h : 4 * ((i + k) * (z + 1)) ≤ length ws) where
  pub whole-of-part : (j : ℕ) → j < k → whole_at z (buckets_in z ws i k) j ≡ whole_at z ws (i + j)
  unfolding whole_at
  whole-of-part j l =
      let p = k * (z + 1) in
      let first = drop (i * (z + 1)) (records ws) in
      let given : p ≤ length first = rw length-drop (omega (arith, records-long ws ((i + k) * (z + 1)) h)) in
      let fits : suc j * (z + 1) ≤ p = mul-le-mul_right (z + 1) l in
      let e : records (buckets_in z ws i k) ≡ take p first = rw (records-take, records-drop) in
      let f : i * (z + 1) + j * (z + 1) ≡ (i + j) * (z + 1) = omega arith in
      let g : i * (z + 1) + (j * (z + 1) + 1) ≡ (i + j) * (z + 1) + 1 = omega arith in
      let a : get_or (records (buckets_in z ws i k)) (j * (z + 1)) dummy ≡ get_or (records ws) ((i + j) * (z + 1)) dummy =
      rw (e, get_or-take p first (j * (z + 1)) dummy (omega arith), get_or-drop, f) in
      let b : take z (drop (j * (z + 1) + 1) (records (buckets_in z ws i k))) ≡ take z (drop ((i + j) * (z + 1) + 1) (records ws)) =
      rw (e, part-within (j * (z + 1) + 1) z p first (omega arith) given, drop-drop, g) in
      λ x. record { least = a x; slots = b x }

-- ---- the way of a path whose h buckets stand from the i-th on
module _ (h z r : ℕ) (root : List Record) (ws : List ℕ) (i : ℕ) (full : r ≤ length root) (given : 4 * ((i + h) * (z + 1)) ≤ length ws) where
  pub way-length : length (way_shown h z r root ws i) ≡ r + z * h
  unfolding way_shown
  way-length = rw (length-append, length-take-le r root full, slots_length z ws i h given)

  pub way-root : root_slots r (way_shown h z r root ws i) ≡ take r root
  unfolding way_shown
  way-root = take_at _ _ r (length-take-le r root full)

  -- its slots at level d are those of the path's bucket there
  pub way-slots : (d : ℕ) → 1 ≤ d → d ≤ h → slots_at r z (way_shown h z r root ws i) d ≡ (whole_at z ws (i + (d - 1))).slots
  unfolding way_shown slots_at
  way-slots d p l =
      let e : h ≡ d - 1 + (1 + (h - d)) = omega arith in
      let a = fewer z (i + (d - 1)) (i + h) given (omega arith) in
      let b = fewer z (i + (d - 1) + 1) (i + h) given (omega arith) in
      let n : length (take r root ++ slots_shown z ws i (d - 1)) ≡ r + z * (d - 1) =
      rw (length-append, length-take-le r root full, slots_length z ws i (d - 1) a) in
      let m = whole_length z ws (i + (d - 1)) b in
      let s = slots-around z ws i (d - 1) (h - d) in
      rw (e, s, ← append_assoc, drop_at _ _ _ n, take_at _ _ z m)
