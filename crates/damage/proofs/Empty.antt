-- Where the root's least record is the dummy, a path that is not Damaged has dummies alone. So nothing is found to remove
-- where no event is live, and a count that falls by one never wraps. Assumes nothing.
use Prim.Native.Nat.{ℕ, zero, suc, ◌+◌, ◌*◌, ◌-◌, ◌%◌, ◌≤◌, ◌<◌}
use mathlib.Core.Bool.{Bool, true, false, cond, true≢false}
use mathlib.Core.List.{List, [], ◌∷◌, ◌++◌, Memᴰ}
use mathlib.Core.Logic.{◌⊎◌, inl, inr, ⊎_elim}
use mathlib.Core.Path.{◌≡◌, refl, sym, subst, ◌∙◌}
use mathlib.Mathlib.Data.Bool.Basic.{dichotomy}
use native.Mathlib.Omega.{arith}
use lib.Dec.{eqb}
use lib.ListN.{length, take}
use borrow.Author.Tests.{ltb-true, lt-ltb}
use Rattle.record.specs.declared.Bucket.{Bucket}
use Rattle.record.specs.declared.Leaf.{Leaf}
use Rattle.record.specs.declared.Record.{Record}
use Rattle.record.specs.declared.Rule.{Rule}
use Rattle.record.specs.Standing.{dummy, is_dummy, is_proper, may_stand}
use Rattle.record.specs.Many.{every}
use Rattle.record.specs.Order.{before, smallest}
use Rattle.record.proofs.StandingLaws.{dummy-is}
use Rattle.record.proofs.ManyLaws.{get_in, every-each}
use Rattle.record.proofs.OrderLaws.{ordered, smallest-low, dummy-after-proper}
use Rattle.path.specs.Path.{number, path_bucket}
use Rattle.path.specs.Layout.{Contents}
use Rattle.least.specs.Least.{in_order}
use Rattle.way.specs.Evict.{seek}
use Rattle.clearing.specs.Removal.{found}
use Rattle.gather.specs.Shown.{whole_at, slots_shown, way_shown}
use Rattle.clearing.proofs.RemovalLaws.{found-passes}
use Rattle.gather.proofs.ShownLaws.{way-root}
use Rattle.truth.specs.Leasts.{kids_shown}
use Rattle.sound.specs.Fetched.{path_fetched}
use Rattle.damage.specs.Damaged.{path_damaged}
use Rattle.sound.proofs.SoundLaws.{sound-cases, bucket-sound-at}
use Rattle.truth.proofs.LevelLaws.{least-true-at}
use Rattle.damage.proofs.DamagedLaws.{Undamaged, undamaged}

-- a bucket's own least record is among the two
own_in : (b : Bucket) (own other : Record) → Memᴰ own (in_order b own other)
unfolding in_order
own_in b own other = pick (eqb (number b % 2) 0)
  where
    pick : (even : Bool) → Memᴰ own (cond even (own ∷ other ∷ []) (other ∷ own ∷ []))
    pick true = mathlib.Core.List.Memᴰ.head refl
    pick false = mathlib.Core.List.Memᴰ.tail (mathlib.Core.List.Memᴰ.head refl)

module _ (h : ℕ) (rule : Rule) where
  -- the dummy is the last that may stand
  abbrev Stands : Record → Type 0
  Stands x = (x ≡ dummy) ⊎ (is_proper rule x ≡ true)

  last-dummy : (x : Record) → Stands x → before rule dummy x ≡ true → x ≡ dummy
  last-dummy x (inl e) l = e
  last-dummy x (inr p) l = absurd (true≢false (sym l ∙ dummy-after-proper rule x p))

  -- where the dummy is the smallest, all are the dummy
  all-last : (l : List Record) → dummy ≡ smallest rule l → {x : Record} → Memᴰ x l → Stands x → x ≡ dummy
  all-last l e {x} i s = last-dummy x s (rw (← e) at (smallest-low (before rule) (ordered rule) i))

  stand-cases : (x : Record) → may_stand rule x ≡ true → Stands x
  unfolding may_stand
  stand-cases x s = elim (dichotomy (is_dummy x)) [ inl f ↦ inr (rw f at s) | inr t ↦ inl (dummy-is x t) ]

  module _ (r : ℕ) (leaf : Leaf) (shown : ℕ → Contents) (beside : ℕ → Record) (way : List Record)
      (u : Undamaged h r rule dummy (record { leaf = leaf; shown = shown; beside = beside }) way)
      (roots : every (may_stand rule) (take r way) ≡ true) where
    root-dummies : {x : Record} → Memᴰ x (take r way) → x ≡ dummy
    root-dummies {x} i =
        all-last (take r way ++ _) u.root (mathlib.Core.List.Memᴰ.append_left _ i) (stand-cases x (every-each _ roots i))

    fetched-stands : (d : ℕ) → 1 ≤ d → d ≤ h → {x : Record} → Memᴰ x ((shown d).least ∷ (shown d).slots) → Stands x
    fetched-stands d some most i =
        ⊎_elim inl (λ s. inr s.0) (sound-cases h rule d (path_bucket h leaf d) _ (bucket-sound-at h leaf d some most shown rule u.path.buckets i))

    -- the least records on the path, from the root down
    least-dummy : (d : ℕ) → suc d ≤ h → (shown (suc d)).least ≡ dummy
    unfolding kids_shown
    least-dummy zero most =
        all-last (take r way ++ _) u.root (mathlib.Core.List.Memᴰ.append_right (take r way) (own_in (path_bucket h leaf 1) (shown 1).least (beside 1)))
        (fetched-stands 1 (omega arith) most (mathlib.Core.List.Memᴰ.head refl))
    least-dummy (suc d) most =
        let above = least-dummy d (omega arith) in
        let true-here = least-true-at h leaf shown beside rule (suc d) (omega arith) (omega arith) u.path.leasts in
        let e = rw (lt-ltb (suc d) h most) at (sym above ∙ true-here) in
        all-last ((shown (suc d)).slots ++ _) e
        (mathlib.Core.List.Memᴰ.append_right (shown (suc d)).slots (own_in (path_bucket h leaf (suc (suc d))) (shown (suc (suc d))).least (beside (suc (suc d)))))
        (fetched-stands (suc (suc d)) (omega arith) most (mathlib.Core.List.Memᴰ.head refl))

    slot-dummies : (d : ℕ) → suc d ≤ h → {x : Record} → Memᴰ x (shown (suc d)).slots → x ≡ dummy
    slot-dummies d most i =
        let true-here = least-true-at h leaf shown beside rule (suc d) (omega arith) most u.path.leasts in
        all-last ((shown (suc d)).slots ++ _) (sym (least-dummy d most) ∙ true-here) (mathlib.Core.List.Memᴰ.append_left _ i)
        (fetched-stands (suc d) (omega arith) most (mathlib.Core.List.Memᴰ.tail i))

-- a record of a way in words stands in the root or in a bucket of the path
slots-cases : (z : ℕ) (ws : List ℕ) (k : ℕ) {x : Record} → Memᴰ x (slots_shown z ws 0 k)
    → (j : ℕ) × (j < k) × Memᴰ x (whole_at z ws (0 + j)).slots
unfolding slots_shown
slots-cases z ws zero i = absurd (mathlib.Core.List.Memᴰ.not-nil i)
slots-cases z ws (suc k) i =
    ⊎_elim
    (λ (l : Memᴰ _ (slots_shown z ws 0 k)). let (j, m, n) = slots-cases z ws k l in (j, omega arith, n))
    (λ l. (k, omega arith, l))
    (mathlib.Core.List.Memᴰ.append_cases (slots_shown z ws 0 k) i)

-- Nothing is found where the root's least record is the dummy.
module _ (h z r : ℕ) (root : List Record) (ws : List ℕ) (full : r ≤ length root) (given : 4 * ((0 + h) * (z + 1)) ≤ length ws)
    (rule : Rule) (leaf : Leaf) (roots : every (may_stand rule) (take r root) ≡ true)
    (good : path_damaged h r rule dummy (path_fetched h z leaf ws) (way_shown h z r root ws 0) ≡ false) where
  abbrev way : List Record
  way = way_shown h z r root ws 0

  top : take r way ≡ take r root
  top = way-root h z r root ws 0 full given

  all-dummies : {x : Record} → Memᴰ x way → x ≡ dummy
  unfolding way_shown
  all-dummies {x} i =
      let u = undamaged h r rule dummy (path_fetched h z leaf ws) way good in
      let stand : every (may_stand rule) (take r way) ≡ true = rw top roots in
      ⊎_elim
      (λ (l : Memᴰ x (take r root)). root-dummies h rule r leaf _ _ way u stand (rw (← top) at l))
      (λ (l : Memᴰ x (slots_shown z ws 0 h)).
      let (j, m, n) = slots-cases z ws h l in
      let e : 0 + j ≡ 0 + (suc j - 1) = omega arith in
      slot-dummies h rule r leaf _ _ way u stand j m (subst (λ (a : ℕ). Memᴰ x (whole_at z ws a).slots) e n))
      (mathlib.Core.List.Memᴰ.append_cases (take r root) i)

  pub none_found : (f : Record → Bool) → f dummy ≡ false → found f way ≡ false
  unfolding found
  none_found f fails = elim (dichotomy (found f way)) [
    | inl e ↦ e
    | inr t ↦
        let there = get_in way (seek f (length way) way) dummy (ltb-true _ _ t) in
        let passes = found-passes f way dummy t in
        absurd (true≢false (sym passes ∙ rw (all-dummies there) fails))
  ]
