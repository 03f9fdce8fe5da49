-- The root's least record is on its label's path: what document 01 takes for granted of ExtractMin, "replaces the root's
-- least record, wherever it is on the path". A root's least record that is no slot of the root is a child's; a sibling's
-- least record has a label whose path holds the sibling, so it is the path's child's; and so on down to the leaf's bucket,
-- which has slots only. Assumes nothing.
use Prim.Native.Nat.{ℕ, zero, suc, ◌+◌, ◌*◌, ◌-◌, ◌%◌, ◌≤◌}
use mathlib.Core.Bool.{Bool, true, false, cond, and-eq-true_iff, true≢false}
use mathlib.Core.List.Memᴰ
use mathlib.Core.List.{List, [], ◌∷◌, ◌++◌, Memᴰ}
use mathlib.Core.Logic.{◌⊎◌, inl, inr, ⊎_elim}
use mathlib.Core.Path.{◌≡◌, refl, sym, ap, ◌∙◌}
use mathlib.Mathlib.Data.Bool.Basic.{dichotomy}
use native.Mathlib.Omega.{arith}
use lib.Dec.{eqb}
use lib.ListN.{length, get_or, take, drop, take-append-drop}
use borrow.Author.Tests.{not-true, ltb-true, lt-ltb, le-ltb, eqb-true, eq-eqb}
use Rattle.record.specs.declared.Bucket.{Bucket}
use Rattle.record.specs.declared.Record.{Record}
use Rattle.record.specs.declared.Rule.{Rule}
use Rattle.record.specs.Standing.{dummy, same, is_dummy, is_proper}
use Rattle.record.specs.Order.{before, least_of}
use Rattle.record.proofs.StandingLaws.{same_true, true_same, is-dummy, proper-true, proper-not-dummy}
use Rattle.record.proofs.ManyLaws.{get_in}
use Rattle.record.proofs.OrderLaws.{smallest-in}
use Rattle.path.specs.Sizes.{leaves_of}
use Rattle.path.specs.Path.{number, path_bucket, sibling_of}
use Rattle.path.specs.Layout.{Contents}
use Rattle.path.proofs.PathLaws.{sibling-off, holds-true}
use Rattle.least.specs.Least.{slots_at, in_order}
use Rattle.way.specs.Evict.{seek}
use Rattle.clearing.specs.Removal.{named, found}
use Rattle.gather.specs.Shown.{whole_at, way_shown}
use Rattle.clearing.proofs.RemovalLaws.{member-found, found-passes}
use Rattle.gather.proofs.ShownLaws.{way-slots}
use Rattle.truth.specs.Leasts.{kids_shown}
use Rattle.sound.specs.Fetched.{path_fetched}
use Rattle.damage.specs.Damaged.{path_damaged}
use Rattle.sound.proofs.SoundLaws.{sound-cases, sibling-sound-at}
use Rattle.truth.proofs.LevelLaws.{least-true-at}
use Rattle.damage.proofs.DamagedLaws.{Undamaged, undamaged}
use Rattle.damage.proofs.OnceLaws.{stamp-once}

-- what is among some is among all of them
take_in : {x : Record} (n : ℕ) (l : List Record) → Memᴰ x (take n l) → Memᴰ x l
take_in n l m = rw take-append-drop at (Memᴰ.append_left (drop n l) m)

drop-in : {x : Record} (n : ℕ) (l : List Record) → Memᴰ x (drop n l) → Memᴰ x l
drop-in n l m = rw take-append-drop at (Memᴰ.append_right (take n l) m)

-- one of two children's least records is the one or the other
kid-cases : {x : Record} (b : Bucket) (own other : Record) → Memᴰ x (in_order b own other) → (x ≡ own) ⊎ (x ≡ other)
unfolding in_order
kid-cases {x} b own other m = pick (eqb (number b % 2) 0) m
  where
    pick : (even : Bool) → Memᴰ x (cond even (own ∷ other ∷ []) (other ∷ own ∷ [])) → (x ≡ own) ⊎ (x ≡ other)
    pick true i = elim (Memᴰ.cases_cons i) [ inl e ↦ inl e | inr j ↦ inr (Memᴰ.eq_of_singleton j) ]
    pick false i = elim (Memᴰ.cases_cons i) [ inl e ↦ inr e | inr j ↦ inl (Memᴰ.eq_of_singleton j) ]

module _ (h r : ℕ) (rule : Rule) (leaves : rule.leaves ≡ leaves_of h) (m : Record) (proper : is_proper rule m ≡ true) where
  not-dummy : m ≡ dummy → ⊥
  not-dummy e = true≢false (rw (e, is-dummy) at (proper-not-dummy rule m proper))

  -- a least record that is not the dummy is a slot or a child's
  least-in : (slots kids : List Record) → m ≡ least_of rule slots kids → Memᴰ m slots ⊎ Memᴰ m kids
  least-in slots kids e = elim (smallest-in (before rule) (slots ++ kids)) [
    | inl d ↦ absurd (not-dummy (e ∙ d))
    | inr i ↦ Memᴰ.append_cases slots (Memᴰ.cast e i)
  ]

  module _ (shown : ℕ → Contents) (beside : ℕ → Record) (way : List Record)
      (u : Undamaged h r rule m (record { leaf = m.label; shown = shown; beside = beside }) way)
      (slots-in : (d : ℕ) → 1 ≤ d → d ≤ h → Memᴰ m (shown d).slots → Memᴰ m way) where
    -- a sibling is off the path of m's label, so its least record is another
    not-beside : (d : ℕ) → 1 ≤ d → d ≤ h → m ≡ beside d → ⊥
    not-beside d some most e =
        let s = sibling-sound-at h m.label d some most beside rule 1 some u.path.siblings in
        ⊎_elim not-dummy
        (λ s. sibling-off h m.label (omega (arith, leaves, (proper-true _ _ proper).label)) d some most d most (ap number (holds-true h m.label d _ s.1)))
        (sound-cases h rule d (sibling_of (path_bucket h m.label d)) m (rw (← e) at s))

    -- so of two children it is the one on the path that m can be
    own-child : (d : ℕ) → suc d ≤ h → Memᴰ m (in_order (path_bucket h m.label (suc d)) (shown (suc d)).least (beside (suc d)))
        → m ≡ (shown (suc d)).least
    own-child d most i =
        ⊎_elim (λ e. e) (λ b. absurd (not-beside (suc d) (omega arith) most b)) (kid-cases _ _ _ i)

    -- a least record on the path is a slot there or a child's
    at_level : (d : ℕ) → 1 ≤ d → d ≤ h → m ≡ (shown d).least
        → Memᴰ m way ⊎ Memᴰ m (kids_shown h m.label shown beside d)
    at_level d some most own =
        let t = least-true-at h m.label shown beside rule d some most u.path.leasts in
        ⊎_elim (λ i. inl (slots-in d some most i)) inr (least-in (shown d).slots _ (own ∙ t))

    -- k levels above the leaf's bucket, which has slots only
    descend : (k d : ℕ) → k + d ≡ h → 1 ≤ d → m ≡ (shown d).least → Memᴰ m way
    unfolding kids_shown
    descend zero d e some own =
        ⊎_elim (λ i. i) (λ i. absurd (Memᴰ.not-nil (rw (le-ltb d h (omega arith)) at i)))
        (at_level d some (omega arith) own)
    descend (suc k) d e some own =
        ⊎_elim (λ i. i)
        (λ i. descend k (suc d) (omega arith) (omega arith) (own-child d (omega arith) (rw (lt-ltb d h (omega arith)) at i)))
        (at_level d some (omega arith) own)

    least-on-way : 1 ≤ h → Memᴰ m way
    least-on-way high =
        ⊎_elim (take_in r way)
        (λ i. descend (h - 1) 1 (omega arith) (omega arith) (own-child 0 high i))
        (least-in (take r way) _ u.root)

  own_name : named m.label m.stamp m ≡ true
  unfolding named
  own_name =
      rw (proper-not-dummy rule m proper, eq-eqb m.label.0 _ refl, eq-eqb m.stamp.0 _ refl)

-- An ExtractMin's record is there: its path is that of the label of the root's least record m.
module _ (h r : ℕ) (rule : Rule) (leaves : rule.leaves ≡ leaves_of h) (m : Record) (shown : ℕ → Contents) (beside : ℕ → Record) (way : List Record)
    (high : 1 ≤ h) (proper : is_proper rule m ≡ true)
    (slots-in : (d : ℕ) → 1 ≤ d → d ≤ h → Memᴰ m (shown d).slots → Memᴰ m way)
    (good : path_damaged h r rule m (record { leaf = m.label; shown = shown; beside = beside }) way ≡ false) where
  on-way : Memᴰ m way
  on-way = least-on-way h r rule leaves m proper shown beside way (undamaged h r rule m _ way good) slots-in high

  pub extract-found : found (named m.label m.stamp) way ≡ true
  extract-found = member-found (named m.label m.stamp) on-way (own_name h r rule leaves m proper)

  -- Stamps are distinct, so what is found is m, and in one slot only.
  pub extract-is-least : (d : Record) → get_or way (seek (named m.label m.stamp) (length way) way) d ≡ m
  unfolding named found
  extract-is-least d =
      let f = named m.label m.stamp in
      let x = get_or way (seek f (length way) way) d in
      let (real, (l, s)) = simp and-eq-true_iff at (found-passes f way d extract-found) in
      let there = get_in way (seek f (length way) way) d (ltb-true _ _ extract-found) in
      let once = (undamaged h r rule m _ way good).stamps in
      stamp-once once there on-way (not-true (is_dummy x) real) (proper-not-dummy rule m proper) (eqb-true _ _ s)

  -- so on its way the root's least record is known by its label and stamp
  by_name_lem : (x : Record) → Memᴰ x way → named m.label m.stamp x ≡ true → same m x ≡ true
  unfolding named
  by_name_lem x i t =
      let (real, (l, s)) = simp and-eq-true_iff at t in
      let once = (undamaged h r rule m _ way good).stamps in
      let e = stamp-once once i on-way (not-true (is_dummy x) real) (proper-not-dummy rule m proper) (eqb-true _ _ s) in
      true_same (sym e)

  pub extract-by-name : (x : Record) → Memᴰ x way → named m.label m.stamp x ≡ same m x
  extract-by-name x i = elim (dichotomy (same m x)) [
    | inr t ↦ rw (t, ← same_true m x t) (own_name h r rule leaves m proper)
    | inl f ↦ elim (dichotomy (named m.label m.stamp x)) [
      | inl g ↦ g ∙ sym f
      | inr t ↦ absurd (true≢false (sym (by_name_lem x i t) ∙ f))
    ]
  ]

-- The same of what card and fetched words show.
module _ (h z r : ℕ) (root : List Record) (ws : List ℕ) (full : r ≤ length root) (given : 4 * (h * (z + 1)) ≤ length ws) where
  abbrev way : List Record
  way = way_shown h z r root ws 0

  shown-in : {x : Record} (d : ℕ) → 1 ≤ d → d ≤ h → Memᴰ x (whole_at z ws (0 + (d - 1))).slots → Memᴰ x way
  unfolding slots_at
  shown-in d some most i =
      let s = rw (← way-slots h z r root ws 0 full (omega arith) d some most) at i in
      drop-in (r + z * (d - 1)) way (take_in z (drop (r + z * (d - 1)) way) s)

  module _ (rule : Rule) (leaves : rule.leaves ≡ leaves_of h) (m : Record) (high : 1 ≤ h) (proper : is_proper rule m ≡ true)
      (good : path_damaged h r rule m (path_fetched h z m.label ws) (way_shown h z r root ws 0) ≡ false) where
    pub shown-extract-found : found (named m.label m.stamp) (way_shown h z r root ws 0) ≡ true
    shown-extract-found = extract-found h r rule leaves m _ _ way high proper shown-in good

    pub shown-extract-is-least : (d : Record)
        → get_or (way_shown h z r root ws 0) (seek (named m.label m.stamp) (length (way_shown h z r root ws 0)) (way_shown h z r root ws 0)) d ≡ m
    shown-extract-is-least d = extract-is-least h r rule leaves m _ _ way high proper shown-in good d

    pub shown-extract-by-name : (x : Record) → Memᴰ x (way_shown h z r root ws 0) → named m.label m.stamp x ≡ same m x
    shown-extract-by-name = extract-by-name h r rule leaves m _ _ way high proper shown-in good
