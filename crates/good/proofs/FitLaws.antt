-- An eviction leaves each record of the way at a level that its own path holds: what stood right stands right, and what
-- moves fits where it goes. Assumes nothing.
use Prim.Native.Nat.{ℕ, zero, suc, ◌+◌, ◌*◌, ◌-◌, ◌≤◌, ◌<◌}
use mathlib.Core.Bool.{Bool, true, false, cond, ◌&&◌, and-eq-true_iff}
use mathlib.Core.List.{List, [], ◌∷◌, Memᴰ}
use mathlib.Core.Logic.{◌⊎◌, inl, inr}
use mathlib.Core.Path.{◌≡◌, refl, sym, ap, ◌∙◌}
use mathlib.Mathlib.Data.Bool.Basic.{dichotomy}
use native.Mathlib.Decide.{dec_le, ℕ_discrete}
use native.Mathlib.Nat.{mul-suc, mul-le-mul_left}
use native.Mathlib.Omega.{arith}
use lib.Dec.{ltb}
use lib.ListN.{length, get_or, set, take, drop, length-set, length-drop}
use lib.Seq.{get_or-take, get_or-drop, get_or-set_same, get_or-set_other, length-take-le}
use borrow.Author.Tests.{ltb-true}
use Rattle.record.specs.declared.Leaf.{Leaf}
use Rattle.record.specs.declared.Record.{Record}
use Rattle.record.specs.Standing.{dummy, is_dummy}
use Rattle.way.specs.Evict.{seek, fits, moved_to, pull, pulls, evict_up, evict}
use Rattle.least.specs.Least.{slots_at}
use Rattle.way.proofs.EvictLaws.{length-pulls}
use Rattle.tree.proofs.JoinLaws.{level_of}

-- what a search finds passes
pub seek-passes : (f : Record → Bool) (n : ℕ) (w : List Record) → n ≤ length w → seek f n w < n → f (get_or w (seek f n w) dummy) ≡ true
unfolding seek
seek-passes f zero w h l = absurd (omega arith)
seek-passes f (suc n) [] h l = absurd (omega arith)
seek-passes f (suc n) (x ∷ xs) h l = elim (dichotomy (f x)) [
  | inl e ↦ let k = rw e at l in rw e (seek-passes f n xs (omega arith) (omega arith))
  | inr t ↦ rw t t
]

-- ---- by places: `fit d` says what may stand at level d, whose slots are those from r + z (d - 1) on
module _ (fit : ℕ → Record → Bool) (r z h : ℕ) where
  abbrev pub Fitting : List Record → Type 0
  Fitting w = (d i : ℕ) → d < h → i < z → (get_or w (r + z * d + i) dummy ≡ dummy) ⊎ (fit (suc d) (get_or w (r + z * d + i) dummy) ≡ true)

  -- a place belongs to one level
  one-level : (d e i j : ℕ) → i < z → j < z → r + z * d + i ≡ r + z * e + j → d ≡ e
  one-level d e i j l m same = elim (dec_le d e) [
    | yes a ↦ elim (dec_le e d) [
      | yes b ↦ omega arith
      | no b ↦ let k : suc d ≤ e = omega arith in absurd (omega (arith, mul-suc z d, mul-le-mul_left z k))
    ]
    | no a ↦ let k : suc e ≤ d = omega arith in absurd (omega (arith, mul-suc z e, mul-le-mul_left z k))
  ]

  module _ (d : ℕ) (here : d < h) where
    abbrev lo : ℕ
    lo = r + z * d

    module _ (w : List Record) (k : ℕ) (at : k < z) (long : lo + z ≤ length w) (all : Fitting w) where
      moved-fits : (i : ℕ) → i < lo → fit (suc d) (get_or w i dummy) ≡ true → Fitting (moved_to w i (lo + k))
      unfolding moved_to
      moved-fits i l f e j m n = elim (ℕ_discrete (r + z * e + j) i) [
        | yes p ↦ inl (rw p (get_or-set_same (set w (lo + k) (get_or w i dummy)) i dummy dummy (rw length-set (omega arith))))
        | no p ↦
            let stay = get_or-set_other (set w (lo + k) (get_or w i dummy)) i (r + z * e + j) dummy dummy p in
            elim (ℕ_discrete (r + z * e + j) (lo + k)) [
              | yes s ↦
                  let level : e ≡ d = one-level e d j k n at s in
                  inr (rw (
                    stay ∙ ap (λ (a : ℕ). get_or (set w (lo + k) (get_or w i dummy)) a dummy) s
                        ∙ get_or-set_same w (lo + k) (get_or w i dummy) dummy (omega arith),
                    level,
                  ) f)
              | no s ↦ rw (stay ∙ get_or-set_other w (lo + k) (r + z * e + j) (get_or w i dummy) dummy s) (all e j m n)
            ]
      ]

      pull-fits : Fitting (pull (fit (suc d)) lo (lo + k) w)
      unfolding pull
      pull-fits = if-moved (is_dummy (get_or w (lo + k) dummy) && ltb (seek (fit (suc d)) lo w) lo) refl
        where
          if-moved : (b : Bool) → (is_dummy (get_or w (lo + k) dummy) && ltb (seek (fit (suc d)) lo w) lo) ≡ b
              → Fitting (cond b (moved_to w (seek (fit (suc d)) lo w) (lo + k)) w)
          if-moved false e = all
          if-moved true e =
              let l = ltb-true (seek (fit (suc d)) lo w) lo
              ((and-eq-true_iff (is_dummy (get_or w (lo + k) dummy)) (ltb (seek (fit (suc d)) lo w) lo)).0 e).1 in
              moved-fits (seek (fit (suc d)) lo w) l (seek-passes (fit (suc d)) lo w (omega arith) l)

    pulls-fit : (w : List Record) (k : ℕ) → k ≤ z → lo + z ≤ length w → Fitting w → Fitting (pulls (fit (suc d)) lo k w)
    unfolding pulls
    pulls-fit w zero l long all = all
    pulls-fit w (suc k) l long all =
        pull-fits (pulls (fit (suc d)) lo k w) k l (omega (arith, length-pulls (fit (suc d)) lo k w)) (pulls-fit w k (omega arith) long all)

  levels-fit : (d : ℕ) → d ≤ h → (w : List Record) → r + z * d ≤ length w → Fitting w → Fitting (evict_up fit r z d w)
  unfolding evict_up
  levels-fit zero l w long all = all
  levels-fit (suc d) l w long all =
      let n = mul-suc z d in
      levels-fit d (omega arith) _ (omega (arith, length-pulls (fit (suc d)) (r + z * d) z w))
      (pulls-fit d l w z (omega arith) (omega arith) all)

pub evict-fits : (h z r : ℕ) (q : Leaf) (w : List Record) → r + z * h ≤ length w → Fitting (fits h q) r z h w
    → Fitting (fits h q) r z h (evict h z r q w)
unfolding evict
evict-fits h z r q w long all = levels-fit (fits h q) r z h h (omega arith) w long all

-- ---- by levels
pub place_of : {x : Record} {w : List Record} → Memᴰ x w → (i : ℕ) × (i < length w) × (get_or w i dummy ≡ x)
place_of (Memᴰ.head e) = (0, omega arith, sym e)
place_of (Memᴰ.tail m) = let p = place_of m in (suc p.0, omega (arith, p.1), p.2)

pub at_place : (w : List Record) (i : ℕ) → i < length w → Memᴰ (get_or w i dummy) w
at_place [] i l = absurd (omega arith)
at_place (x ∷ xs) zero l = Memᴰ.head refl
at_place (x ∷ xs) (suc i) l = Memᴰ.tail (at_place xs i (omega arith))

module _ (fit : ℕ → Record → Bool) (r z h : ℕ) (w : List Record) (long : length w ≡ r + z * h) where
  room : (d : ℕ) → d < h → r + z * d + z ≤ length w
  room d l = omega (arith, mul-suc z d, mul-le-mul_left {m = suc d} {n = h} z l)

  level-length : (d : ℕ) → d < h → length (take z (drop (r + z * d) w)) ≡ z
  level-length d l = length-take-le z (drop (r + z * d) w) (rw length-drop (omega (arith, room d l)))

  pub fitting-level : Fitting fit r z h w → (d : ℕ) → 1 ≤ d → d ≤ h → (x : Record) → Memᴰ x (level_of r z w d)
      → (x ≡ dummy) ⊎ (fit d x ≡ true)
  unfolding level_of slots_at
  fitting-level all zero p l x m = absurd (omega arith)
  fitting-level all (suc d) p l x m =
      let b : suc d - 1 ≡ d = omega arith in
      let k = place_of (rw b at m) in
      let i : k.0 < z = omega (arith, k.1, level-length d l) in
      let e = sym (get_or-take z (drop (r + z * d) w) k.0 dummy i ∙ get_or-drop (r + z * d) w k.0 dummy) ∙ k.2 in
      rw (← e) (all d k.0 l i)

  pub level-fitting : ((d : ℕ) → 1 ≤ d → d ≤ h → (x : Record) → Memᴰ x (level_of r z w d) → (x ≡ dummy) ⊎ (fit d x ≡ true))
      → Fitting fit r z h w
  unfolding level_of slots_at
  level-fitting all d i l n =
      let b : suc d - 1 ≡ d = omega arith in
      let m = at_place (take z (drop (r + z * d) w)) i (omega (arith, level-length d l)) in
      let e = get_or-take z (drop (r + z * d) w) i dummy n ∙ get_or-drop (r + z * d) w i dummy in
      rw (← e) (all (suc d) (omega arith) l _ (rw b m))
