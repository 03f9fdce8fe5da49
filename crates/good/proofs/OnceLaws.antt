-- No stamp twice: in a list, in two lists one behind the other, in the levels of a way, after records changed places, and
-- after one became the dummy or came in. Assumes nothing.
use Prim.Native.Nat.{ℕ, zero, suc, ◌≤◌, ◌<◌}
use mathlib.Core.Bool.{false, not, true≢false}
use mathlib.Core.List.Memᴰ
use mathlib.Core.List.{List, [], ◌∷◌, ◌++◌, Memᴰ}
use mathlib.Core.List.Permᴰ
use mathlib.Core.List.{Permᴰ}
use mathlib.Core.Logic.{⊎_elim, ◌⊎◌, inl, inr}
use mathlib.Core.Path.{◌≡◌, refl, sym, ap, ◌∙◌}
use mathlib.Mathlib.Data.Bool.Basic.{dichotomy}
use native.Mathlib.Decide.{dec_le}
use native.Mathlib.Omega.{arith}
use lib.ListN.{set}
use borrow.Author.Tests.{not-false}
use Rattle.record.specs.declared.Record.{Record}
use Rattle.record.specs.Standing.{dummy, is_dummy}
use Rattle.record.specs.Many.{every, bears, stamp_twice}
use Rattle.record.proofs.StandingLaws.{is-dummy}
use Rattle.record.proofs.ManyLaws.{every-each, each-every, bears-own, bears-dummy, bears-other, twice-none, twice-dummy, twice-here, twice-later}
use Rattle.tree.specs.Tree.{joined}
use Rattle.tree.proofs.JoinLaws.{level-joined, joined-level}

-- two records that are no dummies and share a stamp
pub record Shares (x y : Record) : Type 0 where
  pub one : is_dummy x ≡ false
  pub two : is_dummy y ≡ false
  pub stamp : x.stamp.0 ≡ y.stamp.0

pub shares-sym : {x y : Record} → Shares x y → Shares y x
shares-sym s = record { one = s.two; two = s.one; stamp = sym s.stamp }

-- no record of the one shares its stamp with one of the other
abbrev pub Across : List Record → List Record → Type 0
Across xs ys = (x y : Record) → Memᴰ x xs → Memᴰ y ys → Shares x y → ⊥

-- a record shares its stamp with none of some
abbrev pub Alone : Record → List Record → Type 0
Alone x ys = (y : Record) → Memᴰ y ys → Shares x y → ⊥

pub data Once : List Record → Type 0 where
  none : Once []
  more : {x : Record} {xs : List Record} → Alone x xs → Once xs → Once (x ∷ xs)

-- ---- against the test
borne-not : (x : Record) (xs : List Record) → is_dummy x ≡ false → Alone x xs
    → not (every (λ y. not (bears x.stamp y)) xs) ≡ false
borne-not x xs d off = rw (each-every (λ y. not (bears x.stamp y)) xs (λ y m. ap not (none-bears y m)))
  where
    none-bears : (y : Record) → Memᴰ y xs → bears x.stamp y ≡ false
    none-bears y m = elim (dichotomy (is_dummy y)) [
      | inl f ↦ bears-other x.stamp y (λ e. off y m (record { one = d; two = f; stamp = sym e }))
      | inr t ↦ bears-dummy x.stamp y t
    ]

pub once-test : {w : List Record} → Once w → stamp_twice w ≡ false
once-test none = twice-none
once-test (more {x} {xs} off o) = elim (dichotomy (is_dummy x)) [
  | inl f ↦ twice-later x xs (borne-not x xs f off) ∙ once-test o
  | inr t ↦ twice-dummy x xs t ∙ once-test o
]

pub test-once : (w : List Record) → stamp_twice w ≡ false → Once w
test-once [] e = none
test-once (x ∷ xs) e = elim (dichotomy (is_dummy x)) [
  | inl f ↦ elim (dichotomy (not (every (λ y. not (bears x.stamp y)) xs))) [
    | inl b ↦
        more (λ y m s. true≢false (sym
        (rw (bears-own x.stamp y s.two (sym s.stamp)) at (every-each (λ y. not (bears x.stamp y)) (not-false _ b) m))))
        (test-once xs (sym (twice-later x xs b) ∙ e))
    | inr b ↦ absurd (true≢false (sym (twice-here x xs f b) ∙ e))
  ]
  | inr t ↦ more (λ y m s. true≢false (sym t ∙ s.one)) (test-once xs (sym (twice-dummy x xs t) ∙ e))
]

-- ---- two lists
pub once-append : {xs ys : List Record} → Once xs → Once ys → Across xs ys → Once (xs ++ ys)
once-append none o off = o
once-append (more {x} {xs} f n) o off =
    more (λ y m s. ⊎_elim (λ i. f y i s) (λ i. off x y (Memᴰ.head refl) i s) (Memᴰ.append_cases xs m))
    (once-append n o (λ u v i j s. off u v (Memᴰ.tail i) j s))

pub record Parted (xs ys : List Record) : Type 0 where
  pub first : Once xs
  pub second : Once ys
  pub across : Across xs ys

pub append-once : (xs ys : List Record) → Once (xs ++ ys) → Parted xs ys
append-once [] ys o = record { first = none; second = o; across = λ x y i j s. Memᴰ.not-nil i }
append-once (x ∷ xs) ys (more f o) =
    let p = append-once xs ys o in
    record {
      first = more (λ y m s. f y (Memᴰ.append_left ys m) s) p.first;
      second = p.second;
      across = λ a b i j s. ⊎_elim (λ e. f b (Memᴰ.append_right xs j) (rw e at s)) (λ k. p.across a b k j s) (Memᴰ.cases_cons i);
    }

-- ---- the levels of a way
module _ (f : ℕ → List Record) where
  pub once-joined : (h : ℕ) → ((d : ℕ) → d ≤ h → Once (f d)) → ((d e : ℕ) → d < e → e ≤ h → Across (f d) (f e)) → Once (joined f h)
  unfolding joined
  once-joined zero each off = each 0 (omega arith)
  once-joined (suc h) each off =
      once-append (once-joined h (λ d l. each d (omega arith)) (λ d e l m. off d e l (omega arith))) (each (suc h) (omega arith))
      (λ x y i j s. let r = joined-level f h i in off r.0 (suc h) (omega (arith, r.1)) (omega arith) x y r.2 j s)

  pub joined_once : (h : ℕ) → Once (joined f h) → (d : ℕ) → d ≤ h → Once (f d)
  unfolding joined
  joined_once zero o d l = let e : d ≡ 0 = omega arith in rw e o
  joined_once (suc h) o d l =
      let p = append-once (joined f h) (f (suc h)) o in
      elim (dec_le d h) [
        | yes k ↦ joined_once h p.first d k
        | no k ↦ let e : d ≡ suc h = omega arith in rw e p.second
      ]

  pub joined-across : (h : ℕ) → Once (joined f h) → (d e : ℕ) → d < e → e ≤ h → Across (f d) (f e)
  unfolding joined
  joined-across zero o d e l m x y i j s = absurd (omega arith)
  joined-across (suc h) o d e l m x y i j s =
      let p = append-once (joined f h) (f (suc h)) o in
      elim (dec_le e h) [
        | yes k ↦ joined-across h p.first d e l k x y i j s
        | no k ↦ let n : e ≡ suc h = omega arith in p.across x y (level-joined f d h (omega arith) i) (rw n at j) s
      ]

-- ---- records that change places
pub perm-mem : {x : Record} {xs ys : List Record} → Permᴰ xs ys → Memᴰ x xs → Memᴰ x ys
perm-mem Permᴰ.nil m = m
perm-mem (Permᴰ.cons e p) m =
    ⊎_elim (λ i. Memᴰ.head (i ∙ e)) (λ i. Memᴰ.tail (perm-mem p i)) (Memᴰ.cases_cons m)
perm-mem (Permᴰ.swap e f) m =
    ⊎_elim (λ i. Memᴰ.tail (Memᴰ.head (i ∙ e)))
    (λ i. ⊎_elim (λ j. Memᴰ.head (j ∙ f)) (λ j. Memᴰ.tail (Memᴰ.tail j)) (Memᴰ.cases_cons i)) (Memᴰ.cases_cons m)
perm-mem (Permᴰ.trans p q) m = perm-mem q (perm-mem p m)

pub perm-once : {xs ys : List Record} → Permᴰ xs ys → Once xs → Once ys
unfolding Permᴰ.symm
perm-once Permᴰ.nil o = o
perm-once (Permᴰ.cons e p) (more f o) = more (λ y m s. f y (perm-mem (Permᴰ.symm p) m) (rw e s)) (perm-once p o)
perm-once (Permᴰ.swap {a} {b} e g) (more f (more k o)) =
    more (λ y m s. ⊎_elim (λ i. f b (Memᴰ.head refl) (rw (g, e) (shares-sym (rw i at s)))) (λ i. k y i (rw g s)) (Memᴰ.cases_cons m))
    (more (λ y m s. f y (Memᴰ.tail m) (rw e s)) o)
perm-once (Permᴰ.trans p q) o = perm-once q (perm-once p o)

-- ---- one place
module _ (v : Record) where
  pub set-mem : {x : Record} (w : List Record) (i : ℕ) → Memᴰ x (set w i v) → (x ≡ v) ⊎ Memᴰ x w
  set-mem [] i m = inr m
  set-mem (y ∷ w) zero m = ⊎_elim inl (λ k. inr (Memᴰ.tail k)) (Memᴰ.cases_cons m)
  set-mem (y ∷ w) (suc i) m =
      ⊎_elim (λ e. inr (Memᴰ.head e)) (λ k. ⊎_elim inl (λ n. inr (Memᴰ.tail n)) (set-mem w i k)) (Memᴰ.cases_cons m)

  -- what comes in shares its stamp with none
  pub once-set : (w : List Record) (i : ℕ) → Alone v w → Once w → Once (set w i v)
  once-set [] i off o = o
  once-set (y ∷ w) zero off (more f o) = more (λ u m s. off u (Memᴰ.tail m) s) o
  once-set (y ∷ w) (suc i) off (more f o) =
      more (λ u m s. ⊎_elim (λ e. off y (Memᴰ.head refl) (shares-sym (rw e at s))) (λ k. f u k s) (set-mem w i m))
      (once-set w i (λ u m s. off u (Memᴰ.tail m) s) o)

pub dummy-shares : {y : Record} → Shares dummy y → ⊥
dummy-shares s = true≢false (sym is-dummy ∙ s.one)
