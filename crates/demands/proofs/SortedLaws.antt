-- The plain queue sorts: ExtractMin after ExtractMin answers the events by their order, then by insertion. And what a Delete finds.
-- Assumes nothing.
use Prim.Native.Nat.{ℕ, zero, suc, ◌≤◌}
use mathlib.Core.Bool.{true, false, and-eq-true_iff, true≢false}
use mathlib.Core.List.Memᴰ
use mathlib.Core.List.{List, [], ◌∷◌, map, Memᴰ}
use mathlib.Core.List.{Permᴰ}
use mathlib.Core.Logic.{◌⊎◌, inl, inr, ⊎_elim}
use mathlib.Core.Option.{some}
use mathlib.Core.Path.{◌≡◌, refl, sym, ap, ◌∙◌}
use mathlib.Mathlib.Data.Bool.Basic.{dichotomy}
use native.Mathlib.Omega.{arith}
use lib.ListN.{length, take}
use borrow.Author.Tests.{eqb-true, eq-eqb}
use Rattle.demands.specs.Queue.{Reference, Event, Reply, refers_to, no_dearer, sooner, least_event, has, taken_out, told}
use Rattle.demands.specs.Sorted.{placed, sorted, extracts, Distinct, more, Rising, flat, rise}
use Rattle.demands.proofs.DearLaws.{dear-total, dear-trans}

-- ---- by reference
module _ (r : Reference) (x : Event) where
  pub refers-is : refers_to r x ≡ true → x.ref ≡ r
  refers-is e =
      let (l, s) = simp and-eq-true_iff at e in
      let label = eqb-true _ _ l in
      let stamp = eqb-true _ _ s in
      λ i. record { label = label i; stamp = stamp i }

  is-refers : x.ref ≡ r → refers_to r x ≡ true
  is-refers e = rw (eq-eqb x.ref.label r.label (ap (λ (a : Reference). a.label) e), eq-eqb x.ref.stamp r.stamp (ap (λ (a : Reference). a.stamp) e))

-- one event more in front
module _ (r : Reference) (x : Event) (es : List Event) where
  pub has-own : refers_to r x ≡ true → has r (x ∷ es) ≡ true
  unfolding has
  has-own e = rw e

  pub has_other : refers_to r x ≡ false → has r (x ∷ es) ≡ has r es
  unfolding has
  has_other e = rw e

  pub out-own : refers_to r x ≡ true → taken_out r (x ∷ es) ≡ es
  unfolding taken_out
  out-own e = rw e

  pub out-other : refers_to r x ≡ false → taken_out r (x ∷ es) ≡ x ∷ taken_out r es
  unfolding taken_out
  out-other e = rw e

pub out_none : (r : Reference) → taken_out r [] ≡ []
unfolding taken_out
out_none r = refl

-- a Delete of a live event finds it
pub has-live : {x : Event} {es : List Event} → Memᴰ x es → has x.ref es ≡ true
has-live {x} (Memᴰ.head {x = y} {xs = ys} e) = has-own x.ref y ys (is-refers x.ref y (ap (λ (a : Event). a.ref) (sym e)))
has-live {x} (Memᴰ.tail {x = y} {xs = ys} m) = elim (dichotomy (refers_to x.ref y)) [
  | inr t ↦ has-own x.ref y ys t
  | inl f ↦ has_other x.ref y ys f ∙ has-live m
]

-- "or answers Absent and removes nothing"
pub absent-stays : (r : Reference) (es : List Event) → has r es ≡ false → taken_out r es ≡ es
absent-stays r [] h = out_none r
absent-stays r (x ∷ es) h = elim (dichotomy (refers_to r x)) [
  | inr t ↦ absurd (true≢false (sym (has-own r x es t) ∙ h))
  | inl f ↦ out-other r x es f ∙ ap (λ (ys : List Event). x ∷ ys) (absent-stays r es (sym (has_other r x es f) ∙ h))
]

-- what is left is distinct
module _ (r : Reference) where
  out-in : {y : Event} (es : List Event) → Memᴰ y (taken_out r es) → Memᴰ y es
  out-in [] m = rw (out_none r) at m
  out-in (x ∷ es) m = elim (dichotomy (refers_to r x)) [
    | inr t ↦ Memᴰ.tail (rw (out-own r x es t) at m)
    | inl f ↦ elim (rw (out-other r x es f) at m) [
      | Memᴰ.head e ↦ Memᴰ.head e
      | Memᴰ.tail n ↦ Memᴰ.tail (out-in es n)
    ]
  ]

  out-distinct : (es : List Event) → Distinct es → Distinct (taken_out r es)
  out-distinct [] d = rw (out_none r) d
  out-distinct (x ∷ es) (more apart d) = elim (dichotomy (refers_to r x)) [
    | inr t ↦ rw (out-own r x es t) d
    | inl f ↦ rw (out-other r x es f) (more (λ y m e. apart y (out-in es m) e) (out-distinct es d))
  ]

-- ---- sorted
module _ (x y : Event) (ys : List Event) where
  placed-before : no_dearer x y ≡ true → placed x (y ∷ ys) ≡ x ∷ y ∷ ys
  unfolding placed
  placed-before e = rw e

  placed-behind : no_dearer x y ≡ false → placed x (y ∷ ys) ≡ y ∷ placed x ys
  unfolding placed
  placed-behind e = rw e

least_step : (x : Event) (es : List Event) → least_event (x ∷ es) ≡ sooner x (least_event es)
unfolding least_event
least_step x es = refl

sorted-step : (x : Event) (es : List Event) → sorted (x ∷ es) ≡ placed x (sorted es)
unfolding sorted
sorted-step x es = refl

sorted_none : sorted [] ≡ []
unfolding sorted
sorted_none = refl

placed-none : (x : Event) → placed x [] ≡ x ∷ []
unfolding placed
placed-none x = refl

least-one : (x : Event) → least_event (x ∷ []) ≡ some x
unfolding least_event
least-one x = refl

-- the least comes first, and the rest is the rest sorted
record First (es : List Event) (m : Event) (rest : List Event) : Type 0 where
  least : least_event es ≡ some m
  first : sorted es ≡ m ∷ rest
  later : sorted (taken_out m.ref es) ≡ rest
  inside : Memᴰ m es
  fewer : length es ≡ suc (length (taken_out m.ref es))

find_first : (x : Event) (xs : List Event) → Distinct (x ∷ xs) → (m : Event) × (rest : List Event) × First (x ∷ xs) m rest
find_first x [] d =
    let own = out-own x.ref x [] (is-refers x.ref x refl) in (
      x,
      [],
      record {
        least = least-one x;
        first = sorted-step x [] ∙ ap (placed x) sorted_none ∙ placed-none x;
        later = ap sorted own ∙ sorted_none;
        inside = Memᴰ.head refl;
        fewer = ap (λ (es : List Event). suc (length es)) (sym own);
      },
    )
find_first x (y ∷ ys) (more apart d) =
    let f = find_first y ys d in
    let m = f.0 in
    let rest = f.1 in
    let F = f.2 in
    elim (dichotomy (no_dearer x m)) [
      | inr t ↦
          let own = out-own x.ref x (y ∷ ys) (is-refers x.ref x refl) in (
            x,
            m ∷ rest,
            record {
              least = least_step x (y ∷ ys) ∙ ap (sooner x) F.least ∙ rw t;
              first = sorted-step x (y ∷ ys) ∙ ap (placed x) F.first ∙ placed-before x m rest t;
              later = ap sorted own ∙ F.first;
              inside = Memᴰ.head refl;
              fewer = ap (λ (es : List Event). suc (length es)) (sym own);
            },
          )
      | inl n ↦
          let strange : refers_to m.ref x ≡ false = elim (dichotomy (refers_to m.ref x)) [
            | inl g ↦ g
            | inr h ↦ absurd (apart m F.inside (refers-is m.ref x h))
          ] in
          let other = out-other m.ref x (y ∷ ys) strange in (
            m,
            placed x rest,
            record {
              least = least_step x (y ∷ ys) ∙ ap (sooner x) F.least ∙ rw n;
              first = sorted-step x (y ∷ ys) ∙ ap (placed x) F.first ∙ placed-behind x m rest n;
              later = ap sorted other ∙ sorted-step x (taken_out m.ref (y ∷ ys)) ∙ ap (placed x) F.later;
              inside = Memᴰ.tail F.inside;
              fewer = ap suc F.fewer ∙ ap (λ (es : List Event). suc (length es)) (sym other);
            },
          )
    ]

-- ExtractMin after ExtractMin
pub extracts-sorted : (n : ℕ) (es : List Event) (t : ℕ) → Distinct es → n ≤ length es
    → extracts n (record { events = es; taken = t }) ≡ map (λ e. told (some e)) (take n (sorted es))
unfolding extracts
extracts-sorted zero es t d l = refl
extracts-sorted (suc n) [] t d l = absurd (omega arith)
extracts-sorted (suc n) (x ∷ xs) t d l =
    let f = find_first x xs d in
    let m = f.0 in
    let F = f.2 in
    let later = extracts-sorted n (taken_out m.ref (x ∷ xs)) (suc t) (out-distinct m.ref (x ∷ xs) d) (omega (arith, F.fewer)) in
    rw (F.first, F.least) (ap (λ (rs : List Reply). told (some m) ∷ rs) (rw F.later at later))

-- ---- what `sorted` gives rises, and is the same events
placed-in : {z : Event} (x : Event) (es : List Event) → Memᴰ z (placed x es) → (z ≡ x) ⊎ Memᴰ z es
placed-in x [] m = elim (rw (placed-none x) at m) [
  | Memᴰ.head e ↦ inl e
  | Memᴰ.tail n ↦ inr n
]
placed-in x (y ∷ ys) m = elim (dichotomy (no_dearer x y)) [
  | inr t ↦ elim (rw (placed-before x y ys t) at m) [
    | Memᴰ.head e ↦ inl e
    | Memᴰ.tail n ↦ inr n
  ]
  | inl f ↦ elim (rw (placed-behind x y ys f) at m) [
    | Memᴰ.head e ↦ inr (Memᴰ.head e)
    | Memᴰ.tail n ↦ ⊎_elim inl (λ k. inr (Memᴰ.tail k)) (placed-in x ys n)
  ]
]

placed-rises : (x : Event) (es : List Event) → Rising es → Rising (placed x es)
placed-rises x [] r = rw (placed-none x) (rise (λ y m. absurd (Memᴰ.not-nil m)) flat)
placed-rises x (y ∷ ys) (rise first r) = elim (dichotomy (no_dearer x y)) [
  | inr t ↦
      rw (placed-before x y ys t) (rise {x = x} {xs = y ∷ ys} (λ z m. elim m [
        | Memᴰ.head e ↦ rw e t
        | Memᴰ.tail n ↦ dear-trans x y z t (first z n)
      ]) (rise first r))
  | inl f ↦
      rw (placed-behind x y ys f) (rise {x = y} {xs = placed x ys} (λ z m.
      ⊎_elim (λ (e : z ≡ x). rw e (dear-total x y f)) (λ (n : Memᴰ z ys). first z n) (placed-in x ys m))
      (placed-rises x ys r))
]

pub sorted_rises : (es : List Event) → Rising (sorted es)
sorted_rises [] = rw sorted_none flat
sorted_rises (x ∷ es) = rw (sorted-step x es) (placed-rises x (sorted es) (sorted_rises es))

all_same : (es : List Event) → Permᴰ es es
all_same [] = Permᴰ.nil
all_same (x ∷ es) = Permᴰ.cons refl (all_same es)

placed_same : (x : Event) (es : List Event) → Permᴰ (placed x es) (x ∷ es)
placed_same x [] = rw (placed-none x) (Permᴰ.cons refl Permᴰ.nil)
placed_same x (y ∷ ys) = elim (dichotomy (no_dearer x y)) [
  | inr t ↦ rw (placed-before x y ys t) (all_same (x ∷ y ∷ ys))
  | inl f ↦ rw (placed-behind x y ys f) (Permᴰ.trans (Permᴰ.cons refl (placed_same x ys)) (Permᴰ.swap refl refl))
]

pub sorted-same : (es : List Event) → Permᴰ (sorted es) es
sorted-same [] = rw sorted_none Permᴰ.nil
sorted-same (x ∷ es) =
    rw (sorted-step x es) (Permᴰ.trans (placed_same x (sorted es)) (Permᴰ.cons refl (sorted-same es)))
