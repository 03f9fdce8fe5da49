-- Eviction step by step: a search turn by turn, what may move, a move, the slots of a level, the levels; and that none
-- of them changes how long a way is. Assumes nothing.
use Prim.Native.Nat.{ℕ, zero, suc, ◌+◌, ◌*◌, ◌-◌, ◌/◌, ◌^◌, ◌≤◌, ◌<◌}
use mathlib.Core.Bool.{Bool, true, false, cond, not, ◌&&◌, and-false}
use mathlib.Core.List.{List, []}
use mathlib.Core.Path.{◌≡◌, refl, sym, ap, ◌∙◌, fun_ext}
use native.Mathlib.Nat.{mul-le-mul_left}
use native.Mathlib.Numerals.{add-one}
use native.Mathlib.Decide.{dec_lt}
use native.Mathlib.Omega.{arith}
use lib.Dec.{eqb, ltb}
use lib.ListN.{length, set, get_or, drop, length-set, drop_of_length-le}
use borrow.Author.Tests.{lt-ltb, le-ltb}
use Rattle.std.specs.Prelude.{Option, Some, None}
use Rattle.std.specs.Option.{MatchOption, is_some}
use Rattle.std.proofs.lemmas.Option.{none-some, same_Some}
use Rattle.record.specs.declared.Leaf.{Leaf}
use Rattle.record.specs.declared.Record.{Record}
use Rattle.record.specs.Standing.{dummy, is_dummy}
use Rattle.record.specs.Words.{record_at, written, records}
use Rattle.record.proofs.WordsLaws.{records-count, records-next, length-written, records-at, records-written}
use Rattle.path.proofs.PathLaws.{holds-by-shift}
use Rattle.way.specs.Evict.{seek, placed, fits, moved_to, pull, pulls, evict_up, evict}
use Rattle.way.proofs.WayLaws.{level_before}

-- ---- which place was found, or none
module _ (n i : ℕ) where
  placed-at : i < n → placed n i ≡ Some i
  unfolding placed
  placed-at l = rw (lt-ltb i n l)

  placed-none : n ≤ i → placed n i ≡ None
  unfolding placed
  placed-none l = rw (le-ltb i n l)

  pub placed-some : is_some (placed n i) ≡ ltb i n
  unfolding placed
  placed-some = elim (dec_lt i n) [
    | yes l ↦ rw (lt-ltb i n l)
    | no h ↦ rw (le-ltb i n (omega arith))
  ]

  pub placed-is : (k : ℕ) → Some k ≡ placed n i → (i ≡ k) × (k < n)
  placed-is k e = elim (dec_lt i n) [
    | yes l ↦ let s = same_Some k i (e ∙ placed-at l) in (sym s, omega arith)
    | no h ↦ absurd (none-some k (sym (e ∙ placed-none (omega arith))))
  ]

  pub placed_out : None ≡ placed n i → n ≤ i
  placed_out e = elim (dec_lt i n) [
    | yes l ↦ absurd (none-some i (e ∙ placed-at l))
    | no h ↦ omega arith
  ]

-- ---- a search among the first n places, of which the first i have been passed
seek-none : (f : Record → Bool) (n : ℕ) → seek f n [] ≡ n
unfolding seek
seek-none f zero = refl
seek-none f (suc n) = refl

abbrev pub seek_from : (Record → Bool) → ℕ → List ℕ → ℕ → ℕ
seek_from f n w i = i + seek f (n - i) (drop i (records w))

module _ (f : Record → Bool) (n : ℕ) (w : List ℕ) where
  pub seek-starts : seek f n (records w) ≡ seek_from f n w 0
  seek-starts = let e : n - 0 ≡ n = omega arith in rw e (omega arith)

  module _ (i : ℕ) where
    pub seek-ends : n ≤ i → seek_from f n w i ≡ i
    unfolding seek
    seek-ends l = let e : n - i ≡ 0 = omega arith in rw e (omega arith)

    -- past the last record there is none to find
    pub seek-past : i ≤ n → length w / 4 ≤ i → seek_from f n w i ≡ n
    seek-past l h = rw (drop_of_length-le (records w) {i = i} (omega (arith, records-count w)), seek-none f (n - i)) (omega arith)

    module _ (l : i < n) (h : 4 * i + 4 ≤ length w) where
      next :
          seek f (n - i) (drop i (records w))
          ≡ cond (f (record_at w i)) 0 (suc (seek f (n - (i + 1)) (drop (i + 1) (records w))))
      unfolding seek
      next = let e : n - i ≡ suc (n - (i + 1)) = omega arith in rw (e, records-next w i (omega arith))

      pub seek_found : f (record_at w i) ≡ true → seek_from f n w i ≡ i
      seek_found t = rw (next, t) (omega arith)

      pub seek-turns : f (record_at w i) ≡ false → seek_from f n w i ≡ seek_from f n w (i + 1)
      seek-turns t = rw (next, t) (omega arith)

      found-at : seek f n (records w) ≡ seek_from f n w i → f (record_at w i) ≡ true → Some i ≡ placed n (seek f n (records w))
      found-at s t = sym (rw (s ∙ seek_found t) (placed-at n i l))

    -- no place is left, or none that has a record
    found_none : n ≤ i → seek f n (records w) ≡ seek_from f n w i → None ≡ placed n (seek f n (records w))
    found_none h s = sym (placed-none n _ (omega (arith, s, seek-ends h)))

    found_past : i ≤ n → length w / 4 ≤ i → seek f n (records w) ≡ seek_from f n w i → None ≡ placed n (seek f n (records w))
    found_past l h s = sym (placed-none n _ (omega (arith, s, seek-past l h)))

  passed : (i : ℕ) → i ≤ n → 4 * i ≤ length w → ((k : ℕ) → 0 ≤ k → k < i → f (record_at w k) ≡ false)
      → seek f n (records w) ≡ seek_from f n w i
  passed zero l h free = seek-starts
  passed (suc i) l h free =
      rw (add-one i) at
      (passed i (omega arith) (omega arith) (λ k a b. free k a (omega arith)) ∙ seek-turns i (omega arith) (omega arith) (free i (omega arith) (omega arith)))

  -- what `find` tells of the places 0 .. m - 1, which are all that have a record among the first n
  module _ (m : ℕ) (fits : m ≤ n) (there : m ≤ length w / 4) (all : (m < n → length w / 4 ≤ m)) where
    pub first-placed : (r : Option ℕ)
        → MatchOption r ((k : ℕ) → 0 ≤ k → k < m → f (record_at w k) ≡ false)
        (λ i. (0 ≤ i) × (i < m) × (f (record_at w i) ≡ true) × ((k : ℕ) → 0 ≤ k → k < i → f (record_at w k) ≡ false))
        → r ≡ placed n (seek f n (records w))
    first-placed None h = elim (dec_lt m n) [
      | yes less ↦ found_past m (omega arith) (all less) (passed m (omega arith) (omega arith) h)
      | no more ↦ found_none m (omega arith) (passed m (omega arith) (omega arith) h)
    ]
    first-placed (Some i) h = found-at i (omega (arith, h.1)) (omega (arith, h.1)) (passed i (omega (arith, h.1)) (omega (arith, h.1)) h.3) h.2

-- ---- what may move, as the code tests it: not the dummy, and a label that is `want` after `below` halvings
unfoldable pub agrees : ℕ → ℕ → Record → Bool
agrees below want r = not (is_dummy r) && eqb (r.label.0 / 2 ^ below) want

pub agrees-fits : (h : ℕ) (q : Leaf) (d : ℕ) → d ≤ h → agrees (h - d) (q.0 / 2 ^ (h - d)) ≡ fits h q d
unfolding agrees fits
agrees-fits h q d l = fun_ext (λ r. rw (holds-by-shift h r.label q d l))

-- ---- one slot
module _ (f : Record → Bool) (lo place : ℕ) (w : List ℕ) (h : 4 * place + 4 ≤ length w) where
  pub pull-real : is_dummy (record_at w place) ≡ false → records w ≡ pull f lo place (records w)
  unfolding pull
  pull-real e = rw (records-at w place dummy h, e)

  pub pull-none : None ≡ placed lo (seek f lo (records w)) → records w ≡ pull f lo place (records w)
  unfolding pull
  pull-none e = rw (le-ltb _ _ (placed_out lo _ e), and-false)

  pub pull-moves : (i : ℕ) → is_dummy (record_at w place) ≡ true → Some i ≡ placed lo (seek f lo (records w)) → 4 * lo ≤ length w
      → records (written (written w place (record_at w i)) i dummy) ≡ pull f lo place (records w)
  unfolding pull moved_to
  pull-moves i e p room =
      let (s, l) = placed-is lo _ i p in
      let there : 4 * i + 4 ≤ length (written w place (record_at w i)) = omega (arith, length-written w place (record_at w i)) in
      let stores = records-written _ i dummy there ∙ ap (λ ws. set ws i dummy) (records-written w place (record_at w i) h) in
      stores ∙ rw (s, records-at w place dummy h, e, lt-ltb i lo l, records-at w i dummy (omega arith))

-- ---- the slots of a level: one more is filled
pub slot-next : (f : Record → Bool) (lo k : ℕ) (now after old : List ℕ) → records now ≡ pulls f lo k (records old)
    → records after ≡ pull f lo (lo + k) (records now) → records after ≡ pulls f lo (k + 1) (records old)
unfolding pulls
slot-next f lo k now after old e q = rw add-one (q ∙ ap (pull f lo (lo + k)) e)

-- ---- the levels: those from d on are filled, and the others are left to do
abbrev pub levels_left : (ℕ → Record → Bool) → ℕ → ℕ → ℕ → List ℕ → List ℕ → ℕ → Type 0
levels_left fit r z h old now d = evict_up fit r z d (records now) ≡ evict_up fit r z h (records old)

-- a level stands behind the places that are searched
pub level_room : (z h d : ℕ) → 0 < d → d ≤ h → z * (d - 1) + z ≤ z * h
level_room z h d p l = omega (arith, level_before z d p, mul-le-mul_left z l)

pub level-next : (fit : ℕ → Record → Bool) (r z h d : ℕ) (old now after : List ℕ) → 0 < d
    → records after ≡ pulls (fit d) (r + z * (d - 1)) z (records now) → levels_left fit r z h old now d
    → levels_left fit r z h old after (d - 1)
unfolding evict_up
level-next fit r z h zero old now after p q e = absurd (omega arith)
level-next fit r z h (suc d) old now after p q e = let same : suc d - 1 ≡ d = omega arith in rw (q, same) e

-- ---- how long a way is
pub length_moved : (w : List Record) (from to : ℕ) → length (moved_to w from to) ≡ length w
unfolding moved_to
length_moved w from to = simp length-set

pub length-pull : (f : Record → Bool) (lo place : ℕ) (w : List Record) → length (pull f lo place w) ≡ length w
unfolding pull
length-pull f lo place w = if-moved (is_dummy (get_or w place dummy) && ltb (seek f lo w) lo)
  where
    if-moved : (b : Bool) → length (cond b (moved_to w (seek f lo w) place) w) ≡ length w
    if-moved true = length_moved w (seek f lo w) place
    if-moved false = refl

pub length-pulls : (f : Record → Bool) (lo k : ℕ) (w : List Record) → length (pulls f lo k w) ≡ length w
unfolding pulls
length-pulls f lo zero w = refl
length-pulls f lo (suc k) w = length-pull f lo (lo + k) (pulls f lo k w) ∙ length-pulls f lo k w

pub length-levels : (fit : ℕ → Record → Bool) (r z d : ℕ) (w : List Record) → length (evict_up fit r z d w) ≡ length w
unfolding evict_up
length-levels fit r z zero w = refl
length-levels fit r z (suc d) w = length-levels fit r z d _ ∙ length-pulls (fit (suc d)) (r + z * d) z w

pub length-evict : (h z r : ℕ) (q : Leaf) (w : List Record) → length (evict h z r q w) ≡ length w
unfolding evict
length-evict h z r q w = length-levels (fits h q) r z h w
