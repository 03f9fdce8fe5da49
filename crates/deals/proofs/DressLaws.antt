-- A queue under other labels: the events whose labels f gives by their stamps leave as those with no labels do. Assumes nothing.
use Prim.Native.Nat.{ℕ, suc}
use mathlib.Core.Bool.{Bool, true, false, cond, ◌&&◌}
use mathlib.Core.List.{List, [], ◌∷◌, map, map-append}
use mathlib.Core.Logic.{inl, inr}
use mathlib.Core.Option
use mathlib.Core.Option.{Option, none, some}
use mathlib.Core.Path.{◌≡◌, refl, sym, ap, ◌∙◌}
use mathlib.Mathlib.Data.Bool.Basic.{dichotomy}
use lib.Dec.{eqb}
use borrow.Author.Tests.{eqb-true, eq-eqb}
use Rattle.demands.specs.Queue.{Reference, Event, Queue, extract_min, insert, delete, refers_to, no_dearer, sooner, least_event, has, taken_out, new_event, without_this, next}
use Rattle.deals.proofs.LeavingLaws.{All}

abbrev pub ref : ℕ → ℕ → Reference
ref label stamp = record { label = label; stamp = stamp }

-- an event that has no label yet
abbrev pub Bare : Event → Type 0
Bare e = e.ref.label ≡ 0

and_none : (a b : Bool) → (a && false) ≡ (b && false)
and_none true true = refl
and_none true false = refl
and_none false true = refl
and_none false false = refl

module _ (f : ℕ → ℕ) where
  abbrev pub dress : Event → Event
  dress e = record { key = e.key; value = e.value; ref = ref (f e.ref.stamp) e.ref.stamp }

  abbrev pub dressed : Queue → Queue
  dressed q = record { events = map dress q.events; taken = q.taken }

  -- ---- the least
  sooner-dress : (x : Event) (o : Option Event) → sooner (dress x) (Option.map dress o) ≡ Option.map dress (sooner x o)
  sooner-dress x none = refl
  sooner-dress x (some y) =
      elim (no_dearer x y) as (λ b. some (cond b (dress x) (dress y)) ≡ some (dress (cond b x y))) [ true ↦ refl | false ↦ refl ]

  pub least-dress : (es : List Event) → least_event (map dress es) ≡ Option.map dress (least_event es)
  unfolding least_event
  least-dress [] = refl
  least-dress (x ∷ es) = ap (sooner (dress x)) (least-dress es) ∙ sooner-dress x (least_event es)

  -- ---- by reference
  module _ (s : ℕ) where
    refers-dress : (x : Event) → Bare x → refers_to (ref (f s) s) (dress x) ≡ refers_to (ref 0 s) x
    refers-dress x b = elim (dichotomy (eqb x.ref.stamp s)) [
      | inr t ↦ rw (t, eq-eqb x.ref.label 0 b, eq-eqb (f x.ref.stamp) (f s) (ap f (eqb-true _ _ t)))
      | inl n ↦ rw n (and_none (eqb (f x.ref.stamp) (f s)) (eqb x.ref.label 0))
    ]

    pub has-dress : (es : List Event) → All Bare es → has (ref (f s) s) (map dress es) ≡ has (ref 0 s) es
    unfolding has
    has-dress [] b = refl
    has-dress (x ∷ es) b = rw (refers-dress x b.0, has-dress es b.1)

    pub out-dress : (es : List Event) → All Bare es → taken_out (ref (f s) s) (map dress es) ≡ map dress (taken_out (ref 0 s) es)
    unfolding taken_out
    out-dress [] b = refl
    out-dress (x ∷ es) b =
        rw (refers-dress x b.0, out-dress es b.1)
        (elim (refers_to (ref 0 s) x) as (λ c. cond c (map dress es) (dress x ∷ map dress (taken_out (ref 0 s) es)) ≡ map dress (cond c es (x ∷ taken_out (ref 0 s) es))) [
          | true ↦ refl
          | false ↦ refl
        ])

  -- ---- what goes on without labels goes on with them
  module _ (p : Queue) where
    pub insert-dress : (key value : ℕ) → next (dressed p) (insert key value (f p.taken)) ≡ dressed (next p (insert key value 0))
    insert-dress key value =
        let e = sym (map-append dress p.events (new_event p key value 0 ∷ [])) in
        λ i. record { events = e i; taken = suc p.taken }

    pub delete-dress : (s : ℕ) → All Bare p.events → next (dressed p) (delete (ref (f s) s)) ≡ dressed (next p (delete (ref 0 s)))
    delete-dress s b = let e = out-dress s p.events b in λ i. record { events = e i; taken = suc p.taken }

    -- the least of them, and the queue without it
    module _ (m : Event) (least : least_event p.events ≡ some m) where
      pub dressed-least : least_event (dressed p).events ≡ some (dress m)
      dressed-least = least-dress p.events ∙ ap (λ (o : Option Event). Option.map dress o) least

      pub extract-dress : Bare m → All Bare p.events → next (dressed p) extract_min ≡ dressed (next p extract_min)
      extract-dress bare b =
          let own : ref 0 m.ref.stamp ≡ m.ref = λ i. record { label = sym bare i; stamp = m.ref.stamp } in
          let e : without_this (dressed p) (least_event (dressed p).events) ≡ map dress (without_this p (least_event p.events)) =
          ap (λ (o : Option Event). without_this (dressed p) o) dressed-least ∙ out-dress m.ref.stamp p.events b
          ∙ ap (λ (r : Reference). map dress (taken_out r p.events)) own
          ∙ ap (λ (o : Option Event). map dress (without_this p o)) (sym least) in
          λ i. record { events = e i; taken = suc p.taken }
