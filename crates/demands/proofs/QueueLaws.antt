-- The plain queue and the live records: the first of the least events is the smallest record, since stamps rise in the order of
-- insertion, and what a reference names in the queue is what label and stamp name among the records. Assumes nothing.
use Prim.Native.Nat.{suc, ◌<◌}
use mathlib.Core.Bool.{Bool, true, false, cond}
use mathlib.Core.List.{List, [], ◌∷◌, map, Memᴰ}
use mathlib.Core.Logic.{◌⊎◌, inl, inr, ⊎_elim}
use mathlib.Core.Option.{some}
use mathlib.Core.Path.{◌≡◌, refl, sym, ap, ◌∙◌}
use mathlib.Mathlib.Data.Bool.Basic.{dichotomy}
use native.Mathlib.Omega.{arith}
use lib.Dec.{ltb}
use lib.ListN.{length, get_or}
use borrow.Author.Tests.{ltb-true, ltb-false, lt-ltb, le-ltb, eq-eqb, ne_eqb}
use Rattle.record.specs.declared.Leaf.{Leaf}
use Rattle.record.specs.declared.Stamp.{Stamp}
use Rattle.record.specs.declared.Record.{Record}
use Rattle.record.specs.declared.Rule.{Rule}
use Rattle.record.specs.Standing.{dummy, is_dummy, is_proper}
use Rattle.record.specs.Order.{before, smaller_by, smallest_by, smallest}
use Rattle.record.proofs.StandingLaws.{proper-true}
use Rattle.record.proofs.OrderLaws.{order-but-age, smaller-first, smallest-in, proper-before-dummy}
use Rattle.way.specs.Evict.{seek}
use Rattle.clearing.specs.Removal.{named, found}
use Rattle.clearing.proofs.RemovalLaws.{found-passes, member-found}
use Rattle.good.specs.Live.{without, Ascending, more}
use Rattle.good.proofs.FitLaws.{at_place}
use Rattle.good.proofs.PickLaws.{named-is}
use Rattle.demands.specs.Queue.{Event, Reference, no_dearer, refers_to, least_event, sooner, has, taken_out}
use Rattle.demands.specs.Says.{ref_of, event_of}
use Rattle.demands.proofs.DearLaws.{dear-numbers}
use Rattle.demands.proofs.SortedLaws.{has-own, has_other, out-own, out-other, out_none}

-- ---- the least
-- where the order of two records is that of their events, so is the smaller
sooner-smaller : (rule : Rule) (x m : Record) → before rule x m ≡ no_dearer (event_of x) (event_of m)
    → sooner (event_of x) (some (event_of m)) ≡ some (event_of (smaller_by (before rule) x m))
unfolding smaller_by
sooner-smaller rule x m e = rw e (elim (no_dearer (event_of x) (event_of m)) as (λ b. some (cond b (event_of x) (event_of m)) ≡ some (event_of (cond b x m))) [ true ↦ refl | false ↦ refl ])

first_one : (x : Record) → least_event (map event_of (x ∷ [])) ≡ some (event_of x)
unfolding least_event
first_one x = refl

first_more : (x : Record) (es : List Event) (m : Event) → least_event es ≡ some m → least_event (event_of x ∷ es) ≡ sooner (event_of x) (some m)
unfolding least_event
first_more x es m e = rw e

smallest-more : (rule : Rule) (x : Record) (xs : List Record) → smallest rule (x ∷ xs) ≡ smaller_by (before rule) x (smallest rule xs)
unfolding smallest_by
smallest-more rule x xs = refl

smallest-one : (rule : Rule) (x : Record) → before rule x dummy ≡ true → smallest rule (x ∷ []) ≡ x
unfolding smallest_by
smallest-one rule x h = smaller-first (before rule) h

module _ (rule : Rule) where
  abbrev Known : List Record → Type 0
  Known xs = (y : Record) → Memᴰ y xs → is_proper rule y ≡ true

  -- "earlier insertion first" is the order of stamps
  pub least-smallest : (x : Record) (xs : List Record) → Known (x ∷ xs) → Ascending (x ∷ xs)
      → least_event (map event_of (x ∷ xs)) ≡ some (event_of (smallest rule (x ∷ xs)))
  least-smallest x [] k a = rw (smallest-one rule x (proper-before-dummy rule x (k x (Memᴰ.head refl)))) (first_one x)
  least-smallest x (y ∷ ys) k (more earlier rest) =
      let m = smallest rule (y ∷ ys) in
      let below = least-smallest y ys (λ z i. k z (Memᴰ.tail i)) rest in
      let p = proper-true rule x (k x (Memᴰ.head refl)) in
      let h : (x.key < m.key) ⊎ (x.stamp.0 < m.stamp.0) =
      ⊎_elim (λ (e : m ≡ dummy). inl (rw e p.key)) (λ (i : Memᴰ m (y ∷ ys)). inr (earlier m i)) (smallest-in (before rule) (y ∷ ys)) in
      rw (smallest-more rule x (y ∷ ys)) (first_more x (map event_of (y ∷ ys)) (event_of m) below ∙ sooner-smaller rule x m (order-but-age rule x m h ∙ sym (dear-numbers (event_of x) (event_of m))))

-- ---- by reference
found_none : (f : Record → Bool) → found f [] ≡ false
unfolding found seek
found_none f = refl

module _ (f : Record → Bool) (x : Record) (xs : List Record) where
  found_here : f x ≡ true → found f (x ∷ xs) ≡ true
  found_here e = member-found f (Memᴰ.head refl) e

  found-later : f x ≡ false → found f (x ∷ xs) ≡ found f xs
  unfolding found seek
  found-later e = rw e (elim (dichotomy (ltb (seek f (length xs) xs) (length xs))) [
    | inr t ↦ rw t (lt-ltb (suc (seek f (length xs) xs)) (suc (length xs)) (omega (arith, ltb-true)))
    | inl n ↦ rw n (le-ltb (suc (seek f (length xs) xs)) (suc (length xs)) (omega (arith, ltb-false)))
  ])

module _ (label : Leaf) (stamp : Stamp) where
  abbrev r : Reference
  r = ref_of label stamp

  abbrev Real : List Record → Type 0
  Real xs = (y : Record) → Memᴰ y xs → is_dummy y ≡ false

  named-refers : (x : Record) → is_dummy x ≡ false → named label stamp x ≡ refers_to r (event_of x)
  unfolding named
  named-refers x e = rw e

  has-none : has r [] ≡ false
  unfolding has
  has-none = refl

  -- "the record that has this label and stamp" is the event with this reference
  pub has-found : (xs : List Record) → Real xs → has r (map event_of xs) ≡ found (named label stamp) xs
  has-found [] k = has-none ∙ sym (found_none (named label stamp))
  has-found (x ∷ xs) k =
      let same = named-refers x (k x (Memᴰ.head refl)) in
      elim (dichotomy (refers_to r (event_of x))) [
        | inr t ↦ has-own r (event_of x) (map event_of xs) t ∙ sym (found_here (named label stamp) x xs (same ∙ t))
        | inl n ↦ has_other r (event_of x) (map event_of xs) n ∙ has-found xs (λ y i. k y (Memᴰ.tail i)) ∙ sym (found-later (named label stamp) x xs (same ∙ n))
      ]

  without-here : (x : Record) (xs : List Record) → x.stamp.0 ≡ stamp.0 → without stamp (x ∷ xs) ≡ xs
  unfolding without
  without-here x xs e = rw (eq-eqb x.stamp.0 stamp.0 e)

  without-later : (x : Record) (xs : List Record) → (x.stamp.0 ≡ stamp.0 → ⊥) → without stamp (x ∷ xs) ≡ x ∷ without stamp xs
  unfolding without
  without-later x xs e = rw (ne_eqb x.stamp.0 stamp.0 e)

  -- the one that is found stands in the list and has the stamp
  found_in : (xs : List Record) → found (named label stamp) xs ≡ true → (y : Record) × Memᴰ y xs × (y.stamp.0 ≡ stamp.0)
  unfolding found
  found_in xs e =
      let i = seek (named label stamp) (length xs) xs in
      let y = get_or xs i dummy in
      (y, at_place xs i (ltb-true i (length xs) e), (named-is label stamp y (found-passes (named label stamp) xs dummy e)).2)

  abbrev after : List Record → List Record
  after xs = cond (found (named label stamp) xs) (without stamp xs) xs

  -- and it is the one that goes
  pub taken_out_lem : (xs : List Record) → Real xs → Ascending xs → taken_out r (map event_of xs) ≡ map event_of (after xs)
  taken_out_lem [] k a = out_none r ∙ sym (rw (found_none (named label stamp)))
  taken_out_lem (x ∷ xs) k (more before rest) =
      let same = named-refers x (k x (Memᴰ.head refl)) in
      let below = taken_out_lem xs (λ y i. k y (Memᴰ.tail i)) rest in
      elim (dichotomy (refers_to r (event_of x))) [
        | inr t ↦
            rw (found_here (named label stamp) x xs (same ∙ t), without-here x xs (named-is label stamp x (same ∙ t)).2)
            (out-own r (event_of x) (map event_of xs) t)
        | inl n ↦ elim (dichotomy (found (named label stamp) xs)) [
          | inr f ↦
              let there = found_in xs f in
              let earlier = before there.0 there.1 in
              rw (found-later (named label stamp) x xs (same ∙ n), f, without-later x xs (λ e. omega (arith, earlier, there.2, e)))
              (out-other r (event_of x) (map event_of xs) n ∙ ap (λ (es : List Event). event_of x ∷ es) (rw f at below))
          | inl g ↦
              rw (found-later (named label stamp) x xs (same ∙ n), g)
              (out-other r (event_of x) (map event_of xs) n ∙ ap (λ (es : List Event). event_of x ∷ es) (rw g at below))
        ]
      ]
