-- The order in which events leave: each that was there or is inserted leaves once, so that labels dealt along it are each used
-- once. Assumes nothing.
use Prim.Native.Nat.{ℕ, suc, ◌<◌}
use mathlib.Core.Bool.{true, false, cond, true≢false}
use mathlib.Core.List.{List, [], ◌∷◌, ◌++◌, map, map-append, append_assoc, Memᴰ}
use mathlib.Core.List.Permᴰ
use mathlib.Core.List.{Permᴰ}
use mathlib.Core.Logic.{inl, inr}
use mathlib.Core.Option.{Option, none, some}
use mathlib.Core.Path.{◌≡◌, refl, sym, ap, ◌∙◌, subst}
use mathlib.Mathlib.Data.Bool.Basic.{dichotomy}
use native.Mathlib.Omega.{arith}
use lib.Dec.{eqb}
use lib.ListN.{length, length-map}
use borrow.Author.Tests.{eq-eqb, ne_eqb}
use Rattle.demands.specs.Queue.{Reference, Event, Queue, Operation, insert, find_min, extract_min, delete, nothing, refers_to, no_dearer, sooner, least_event, has, taken_out, next}
use Rattle.demands.proofs.SortedLaws.{refers-is, has_other, out-own, out-other, has-live}
use Rattle.deals.specs.Dealing.{refs, leaving, paired}

-- ---- lists
abbrev pub All : {A : Type 0} → (A → Type 0) → List A → Type 0
All P [] = Unit {0}
All P (x ∷ xs) = P x × All P xs

abbrev pub NoDup : List ℕ → Type 0
NoDup [] = Unit {0}
NoDup (x ∷ xs) = All (λ y. y ≡ x → ⊥) xs × NoDup xs

pub all_map : {A : Type 0} (P Q : A → Type 0) → ((x : A) → P x → Q x) → (xs : List A) → All P xs → All Q xs
all_map P Q f [] h = tt
all_map P Q f (x ∷ xs) h = (f x h.0, all_map P Q f xs h.1)

pub all_append : {A : Type 0} (P : A → Type 0) (xs ys : List A) → All P xs → All P ys → All P (xs ++ ys)
all_append P [] ys h k = k
all_append P (x ∷ xs) ys h k = (h.0, all_append P xs ys h.1 k)

pub all_in : {A : Type 0} (P : A → Type 0) {x : A} {xs : List A} → Memᴰ x xs → All P xs → P x
all_in P (Memᴰ.head e) h = subst P (sym e) h.0
all_in P (Memᴰ.tail m) h = all_in P m h.1

pub perm-all : {A : Type 0} (P : A → Type 0) {xs ys : List A} → Permᴰ xs ys → All P xs → All P ys
perm-all P Permᴰ.nil h = tt
perm-all P (Permᴰ.cons e p) h = (subst P e h.0, perm-all P p h.1)
perm-all P (Permᴰ.swap e f) h = (subst P f h.1.0, (subst P e h.0, h.1.1))
perm-all P (Permᴰ.trans p q) h = perm-all P q (perm-all P p h)

pub perm-nodup : {xs ys : List ℕ} → Permᴰ xs ys → NoDup xs → NoDup ys
perm-nodup Permᴰ.nil h = tt
perm-nodup (Permᴰ.cons {l₂ = ys} e p) h = (all_map _ _ (λ y n q. n (q ∙ sym e)) ys (perm-all _ p h.0), perm-nodup p h.1)
perm-nodup (Permᴰ.swap {l = l} e f) h = (
  (λ q. h.0.0 (f ∙ sym q ∙ sym e), all_map _ _ (λ y n q. n (q ∙ sym f)) l h.1.0),
  (all_map _ _ (λ y n q. n (q ∙ sym e)) l h.0.1, h.1.1),
)
perm-nodup (Permᴰ.trans p q) h = perm-nodup q (perm-nodup p h)

pub perm-length : {A : Type 0} {xs ys : List A} → Permᴰ xs ys → length xs ≡ length ys
perm-length Permᴰ.nil = refl
perm-length (Permᴰ.cons e p) = ap suc (perm-length p)
perm-length (Permᴰ.swap e f) = refl
perm-length (Permᴰ.trans p q) = perm-length p ∙ perm-length q

-- ---- names and values
map_same : (f g : ℕ → ℕ) (xs : List ℕ) → All (λ x. f x ≡ g x) xs → map f xs ≡ map g xs
map_same f g [] h = refl
map_same f g (x ∷ xs) h = cc (h.0, map_same f g xs h.1)

pub paired-names : (ns vs : List ℕ) → NoDup ns → length ns ≡ length vs → map (paired ns vs) ns ≡ vs
unfolding paired
paired-names [] [] d e = refl
paired-names [] (v ∷ vs) d e = absurd (omega arith)
paired-names (n ∷ ns) [] d e = absurd (omega arith)
paired-names (n ∷ ns) (v ∷ vs) d e =
    let r : length ns ≡ length vs = omega arith in
    let t : map (paired (n ∷ ns) (v ∷ vs)) ns ≡ map (paired ns vs) ns =
    map_same _ _ ns (all_map _ (λ x. paired (n ∷ ns) (v ∷ vs) x ≡ paired ns vs x) (λ x m. ap (λ b. cond b v (paired ns vs x)) (ne_eqb x n m)) ns d.0) in
    cc (eq-eqb n n refl, t, paired-names ns vs d.1 r)

pub paired-all : (P : ℕ → Type 0) (ns vs : List ℕ) → P 0 → All P vs → (x : ℕ) → P (paired ns vs x)
unfolding paired
paired-all P [] vs z h x = z
paired-all P (n ∷ ns) [] z h x = z
paired-all P (n ∷ ns) (v ∷ vs) z h x =
    elim (eqb x n) as (λ b. P (cond b v (paired ns vs x))) [ true ↦ h.0 | false ↦ paired-all P ns vs z h.1 x ]

-- ---- one event goes
has-none : (r : Reference) → has r [] ≡ false
unfolding has
has-none r = refl

module _ (r : Reference) where
  pub out-perm : (es : List Event) → has r es ≡ true → Permᴰ (refs es) (r ∷ refs (taken_out r es))
  out-perm [] h = absurd (true≢false (sym h ∙ has-none r))
  out-perm (x ∷ es) h = elim (dichotomy (refers_to r x)) [
    | inr t ↦ rw (out-own r x es t) (Permᴰ.cons (refers-is r x t) (Permᴰ.refl _))
    | inl f ↦
        rw (out-other r x es f)
        (Permᴰ.trans (Permᴰ.cons refl (out-perm es (sym (has_other r x es f) ∙ h))) (Permᴰ.swap refl refl))
  ]

  pub out-length : (es : List Event) → has r es ≡ true → length es ≡ suc (length (taken_out r es))
  out-length es h = simp length-map at (perm-length (out-perm es h))

  pub out-all : (P : Event → Type 0) (es : List Event) → All P es → All P (taken_out r es)
  unfolding taken_out
  out-all P [] h = tt
  out-all P (x ∷ es) h =
      elim (refers_to r x) as (λ b. All P (cond b es (x ∷ taken_out r es))) [ true ↦ h.1 | false ↦ (h.0, out-all P es h.1) ]

  pub has_one : (es : List Event) → has r es ≡ true → (x : Event) × Memᴰ x es × (x.ref ≡ r)
  has_one [] h = absurd (true≢false (sym h ∙ has-none r))
  has_one (x ∷ es) h = elim (dichotomy (refers_to r x)) [
    | inr t ↦ (x, Memᴰ.head refl, refers-is r x t)
    | inl f ↦ let m = has_one es (sym (has_other r x es f) ∙ h) in (m.0, Memᴰ.tail m.1, m.2)
  ]

-- ---- the least is one of them
sooner-some : (x : Event) (o : Option Event) → (m : Event) × (sooner x o ≡ some m)
sooner-some x none = (x, refl)
sooner-some x (some y) = (cond (no_dearer x y) x y, refl)

pub least-some : (es : List Event) → 0 < length es → (m : Event) × (least_event es ≡ some m)
unfolding least_event
least-some [] h = absurd (omega arith)
least-some (x ∷ es) h = sooner-some x (least_event es)

sooner-in : (x m : Event) (es : List Event) (o : Option Event) → ((y : Event) → o ≡ some y → Memᴰ y es) → sooner x o ≡ some m
    → Memᴰ m (x ∷ es)
sooner-in x m es none h e = let f : m ≡ x = cc in Memᴰ.head f
sooner-in x m es (some y) h e =
    (elim (no_dearer x y) as (λ b. some (cond b x y) ≡ some m → Memᴰ m (x ∷ es)) [
      | true ↦ λ p. let f : m ≡ x = cc in Memᴰ.head f
      | false ↦ λ p. let f : some y ≡ some m = p in Memᴰ.tail (h m f)
    ]) e

pub least-in : (es : List Event) (m : Event) → least_event es ≡ some m → Memᴰ m es
unfolding least_event
least-in [] m e = absurd (let z : ◌≡◌ {A = ℕ} 0 1 = cc in omega arith)
least-in (x ∷ es) m e = sooner-in x m es (least_event es) (λ y f. least-in es y f) e

-- ---- what is taken out is there
abbrev pub There : Queue → Operation → Type 0
There q (insert key value label) = Unit {0}
There q find_min = Unit {0}
There q extract_min = (m : Event) × (least_event q.events ≡ some m)
There q (delete r) = has r q.events ≡ true
There q nothing = Unit {0}

abbrev pub Feasible : Queue → List Operation → Type 0
Feasible q [] = Unit {0}
Feasible q (r ∷ rs) = There q r × Feasible (next q r) rs

-- the references of the insertions, the first with this stamp
abbrev pub made : ℕ → List Operation → List Reference
made t [] = []
made t (insert key value label ∷ rs) = record { label = label; stamp = t } ∷ made (suc t) rs
made t (find_min ∷ rs) = made t rs
made t (extract_min ∷ rs) = made (suc t) rs
made t (delete r ∷ rs) = made (suc t) rs
made t (nothing ∷ rs) = made t rs

pub leaving-perm : (q : Queue) (rs : List Operation) → Feasible q rs → Permᴰ (leaving q rs) (refs q.events ++ made q.taken rs)
unfolding leaving
leaving-perm q [] h = Permᴰ.symm (Permᴰ.append-nil _)
leaving-perm q (insert key value label ∷ rs) h =
    let p = leaving-perm (next q (insert key value label)) rs h.1 in
    rw (map-append, append_assoc) at p
leaving-perm q (find_min ∷ rs) h = leaving-perm q rs h.1
leaving-perm q (extract_min ∷ rs) h =
    let (m, least) = h.0 in
    let rest = leaving-perm (next q extract_min) rs h.1 in
    let one = out-perm m.ref q.events (has-live (least-in q.events m least)) in
    rw least (Permᴰ.trans (Permᴰ.cons refl (rw least at rest)) (Permᴰ.append_right _ (Permᴰ.symm one)))
leaving-perm q (delete r ∷ rs) h =
    Permᴰ.trans (Permᴰ.cons refl (leaving-perm (next q (delete r)) rs h.1))
    (Permᴰ.append_right _ (Permᴰ.symm (out-perm r q.events h.0)))
leaving-perm q (nothing ∷ rs) h = leaving-perm q rs h.1

-- ---- stamps of insertions rise
abbrev pub stamps : List Reference → List ℕ
stamps rs = map (λ r. r.stamp) rs

made-above : (t u : ℕ) (rs : List Operation) → u < t → All (λ y. y ≡ u → ⊥) (stamps (made t rs))
made-above t u [] h = tt
made-above t u (insert key value label ∷ rs) h = (omega arith, made-above (suc t) u rs (omega arith))
made-above t u (find_min ∷ rs) h = made-above t u rs h
made-above t u (extract_min ∷ rs) h = made-above (suc t) u rs (omega arith)
made-above t u (delete r ∷ rs) h = made-above (suc t) u rs (omega arith)
made-above t u (nothing ∷ rs) h = made-above t u rs h

pub made-nodup : (t : ℕ) (rs : List Operation) → NoDup (stamps (made t rs))
made-nodup t [] = tt
made-nodup t (insert key value label ∷ rs) = (made-above (suc t) t rs (omega arith), made-nodup (suc t) rs)
made-nodup t (find_min ∷ rs) = made-nodup t rs
made-nodup t (extract_min ∷ rs) = made-nodup (suc t) rs
made-nodup t (delete r ∷ rs) = made-nodup (suc t) rs
made-nodup t (nothing ∷ rs) = made-nodup t rs
