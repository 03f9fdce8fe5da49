-- A finish that is Damaged, one that is worked out, and one that is written. Assumes nothing.
use Prim.Native.Nat.{ℕ, ◌+◌, ◌*◌, ◌≤◌}
use mathlib.Core.Bool.{Bool, true, false, cond, ◌||◌, true≢false}
use mathlib.Core.List.{List}
use mathlib.Core.Path.{◌≡◌, sym, ap, ◌∙◌}
use mathlib.Core.Logic.{inl, inr}
use mathlib.Mathlib.Data.Bool.Basic.{dichotomy}
use native.Mathlib.Nat.{mul-le-mul_left}
use native.Mathlib.Omega.{arith}
use Rattle.std.specs.Prelude.{Result, Ok, Err}
use Rattle.std.specs.Result.{is_ok}
use Rattle.path.specs.declared.sizes.Sizes.{Sizes}
use Rattle.path.specs.Layout.{record_words, bucket_words}
use Rattle.parts.specs.declared.Parts.{Parts}
use Rattle.mend.specs.Mended.{path_words}
use Rattle.settle.specs.declared.Damaged.{Damaged}
use Rattle.settle.specs.declared.Settled.{Settled}
use Rattle.path.specs.Cut.{Cut}
use Rattle.settle.specs.Left.{Left, words_left, bad_left}
use Rattle.settle.specs.Settled.{settled, unsettled, judged, Prepares, Writes, Settles}

-- ---- an answer that is Damaged where b is true, and else x
done-or : {A : Type 0} → A → Result A Damaged → A
done-or x (Ok y) = y
done-or x (Err e) = x

module _ {A : Type 0} (b : Bool) (x : A) (out : Result A Damaged) (told : out ≡ cond b unsettled (Ok x)) where
  pub told-damaged : (e : Damaged) → out ≡ Err e → b ≡ true
  told-damaged e f = elim (dichotomy b) [
    | inl g ↦ absurd (true≢false (sym (ap is_ok (sym f ∙ rw g at told))))
    | inr t ↦ t
  ]

  pub told-done : (y : A) → out ≡ Ok y → (b ≡ false) × (y ≡ x)
  unfolding done-or
  told-done y f = elim (dichotomy b) [
    | inl g ↦ (g, ap (done-or x) (sym f ∙ rw g at told))
    | inr t ↦ absurd (true≢false (ap is_ok (sym f ∙ rw t at told)))
  ]

-- ---- a finish
module _ (p : Parts) (damaged : Bool) (l : Left) (siblings : ℕ) (path : List ℕ) (out : Result Settled Damaged) where
  pub not-prepared : damaged ≡ true → out ≡ unsettled → Prepares damaged l siblings path out
  not-prepared e f = record { whole = rw e f; ready = λ g. absurd (true≢false (sym e ∙ g)) }

  pub prepared : damaged ≡ false → out ≡ Ok (settled l (siblings * record_words)) → path ≡ path_words l.buckets
      → Prepares damaged l siblings path out
  prepared e f g = record { whole = rw e f; ready = λ d. g }

  -- all was worked out, and what would come out is judged: `bad` is the verdict on what was fetched, which passed
  pub is-prepared : (bad : Bool) (next : Settled) → damaged ≡ (bad || bad_left p l)
      → bad ≡ false → next ≡ settled l (siblings * record_words) → path ≡ path_words l.buckets → out ≡ judged p next
      → Prepares damaged l siblings path out
  unfolding judged
  is-prepared bad next whole passed same ready e = elim (dichotomy (bad_left p l)) [
    | inl g ↦ prepared (whole ∙ rw (passed, g)) (e ∙ rw (same, g)) ready
    | inr b ↦ not-prepared (whole ∙ rw (passed, b)) (e ∙ rw (same, b))
  ]

-- what was prepared
module _ (damaged : Bool) (l : Left) (siblings : ℕ) (path : List ℕ) (out : Result Settled Damaged) (q : Prepares damaged l siblings path out) where
  -- Damaged: nothing is written
  pub is-unsettled : (moved : ℕ) (before : List ℕ) (e : Damaged) (done : Result Settled Damaged) → out ≡ Err e → done ≡ Err e
      → Settles damaged l moved before before done
  is-unsettled moved before e done f g =
      let t = told-damaged _ _ out q.whole e f in
      record { whole = g ∙ sym f ∙ q.whole ∙ rw t; words = rw t }

  module _ (next : Settled) (e : out ≡ Ok next) where
    undamaged : damaged ≡ false
    undamaged = (told-done _ _ out q.whole next e).0

    same : next ≡ settled l (siblings * record_words)
    same = (told-done _ _ out q.whole next e).1

    -- at most the siblings' words are counted so far
    pub moved-few : next.moved ≤ siblings * record_words
    moved-few = let m = ap (λ (o : Settled). o.moved) same in omega (arith, m)

    -- what was prepared is written
    pub is-settled : (moved stores : ℕ) (before after : List ℕ) (done : Settled) → siblings * record_words + stores ≡ moved
        → Writes path stores before after next done → Settles damaged l moved before after (Ok done)
    is-settled moved stores before after done count v =
        let e : done ≡ settled l (siblings * record_words + stores) = rw same at v.whole in
        record { whole = rw (undamaged, ← count) (ap Ok e); words = rw (undamaged, ← q.ready undamaged) v.words }

-- a finish told by what it hands back
module _ (d : Bool) (l : Left) (moved : ℕ) (before after : List ℕ) (out : Result Settled Damaged) (q : Settles d l moved before after out) where
  pub settles-damaged : (e : Damaged) → out ≡ Err e → (d ≡ true) × (after ≡ before)
  settles-damaged e f = let t = told-damaged _ _ out q.whole e f in (t, rw t at q.words)

  pub settles-done : (done : Settled) → out ≡ Ok done → (d ≡ false) × ((done ≡ settled l moved) × (after ≡ words_left l before))
  settles-done done f = let (g, e) = told-done _ _ out q.whole done f in (g, (e, rw g at q.words))

-- a path's stores are few
pub stores-few : (s : Sizes) (stores : ℕ) → Cut s → stores ≡ s.h * (2 * bucket_words s.z) → stores ≤ 768
stores-few s stores cut e =
    let m : s.h * (2 * bucket_words s.z) ≤ s.h * 48 = mul-le-mul_left s.h (omega (arith, cut.width)) in
    omega (arith, cut.height)
