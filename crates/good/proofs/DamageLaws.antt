-- A good heap is not Damaged: what its buckets on a path and beside it hold passes the first three clauses. Assumes
-- nothing.
use Prim.Native.Nat.{ℕ, zero, suc, ◌+◌, ◌-◌, ◌^◌, ◌≤◌, ◌<◌}
use mathlib.Core.Bool.{true, false}
use mathlib.Core.List.Memᴰ
use mathlib.Core.List.{List, ◌∷◌, Memᴰ}
use mathlib.Core.Logic.{⊎_elim}
use mathlib.Core.Path.{◌≡◌, sym, ap, ◌∙◌}
use native.Mathlib.Decide.{dec_le}
use native.Mathlib.Omega.{arith}
use lib.ListN.{take}
use lib.Pow.{pow_mono}
use borrow.Author.Tests.{lt-ltb, le-ltb}
use Rattle.record.specs.declared.Leaf.{Leaf}
use Rattle.record.specs.declared.Bucket.{Bucket}
use Rattle.record.specs.declared.Record.{Record}
use Rattle.record.specs.declared.Rule.{Rule}
use Rattle.record.specs.Standing.{is_dummy}
use Rattle.record.specs.Order.{least_of}
use Rattle.record.specs.Many.{every}
use Rattle.record.proofs.StandingLaws.{is-dummy, true_same}
use Rattle.record.proofs.ManyLaws.{each-every}
use Rattle.path.specs.declared.sizes.Sizes.{Sizes}
use Rattle.path.specs.Sizes.{leaves_of}
use Rattle.path.specs.Path.{number, root, path_bucket, sibling_of, holds, up_from}
use Rattle.path.specs.Layout.{Contents}
use Rattle.path.proofs.PathLaws.{path-root, path-band, path_parent, path-in-tree, sibling-band, sibling-in-tree, holds-own}
use Rattle.sound.specs.Sound.{sound, path_sound, siblings_sound}
use Rattle.truth.specs.Leasts.{kids_shown, leasts_true}
use Rattle.sound.specs.Fetched.{Fetched}
use Rattle.damage.specs.Damaged.{path_damaged}
use Rattle.damage.proofs.DamagedLaws.{PathGood, not-damaged}
use Rattle.tree.specs.Tree.{Tree, way_of, slots_on, beside_of}
use Rattle.tree.proofs.JoinLaws.{level_of, joined-levels}
use Rattle.good.specs.Good.{children_in, Good}
use Rattle.good.proofs.OnceLaws.{once-test}
use Rattle.good.proofs.PartsLaws.{path_inside, way-sized, housed-parts}
use Rattle.good.proofs.LeastLaws.{children-inner, children-leaf, children-in-order}
use Rattle.good.proofs.LowLaws.{Noted, least-noted, live-proper, live-real, live-label}

-- a level among those that follow each other
levels-range : (a n : ℕ) {d : ℕ} → Memᴰ d (up_from a n) → (a ≤ d) × (d < a + n)
unfolding up_from
levels-range a zero m = absurd (Memᴰ.not-nil m)
levels-range a (suc n) (Memᴰ.head e) = (omega arith, omega arith)
levels-range a (suc n) (Memᴰ.tail m) = let r = levels-range (suc a) n m in (omega (arith, r.0), omega (arith, r.1))

-- a number is in one band
band-level : (d e n : ℕ) → 2 ^ d ≤ n → n < 2 ^ suc d → 2 ^ e ≤ n → n < 2 ^ suc e → d ≡ e
band-level d e n a b c f = elim (dec_le (suc d) e) [
  | yes l ↦ absurd (omega (arith, pow_mono {i = suc d} {j = e} l))
  | no l ↦ elim (dec_le (suc e) d) [
    | yes m ↦ absurd (omega (arith, pow_mono {i = suc e} {j = d} m))
    | no m ↦ omega arith
  ]
]

-- what a Tree shows of the path of leaf q
abbrev pub shown_by : ℕ → Leaf → Tree → Fetched
shown_by h q T = record { leaf = q; shown = λ d. T (path_bucket h q d); beside = beside_of h q T }

module _ (s : Sizes) (rule : Rule) (T : Tree) (live : List Record) (g : Good s rule T live) where
  -- ---- clause 1
  noted-sound : (d : ℕ) (b : Bucket) → 2 ^ d ≤ number b → number b < 2 ^ suc d → (x : Record) → Noted s rule T live g b x
      → sound s.h rule d b x ≡ true
  unfolding sound
  noted-sound d b low high x n =
      ⊎_elim (λ e. let d : is_dummy x ≡ true = ap is_dummy e ∙ is-dummy in rw d)
      (λ r.
      let o = r.1 in
      let band = path-band s.h x.label (live-label s rule T live g x r.0) o.level o.within in
      let at = ap number o.is in
      let e : o.level ≡ d = band-level o.level d (number b) (omega (arith, band.0)) (omega (arith, band.1)) low high in
      let own : holds s.h x.label d b ≡ true = rw (o.is, ← e) (holds-own s.h x.label o.level) in
      rw (live-real s rule T live g x r.0, live-proper s rule T live g x r.0, own))
      n

  module _ (q : Leaf) (inside : q.0 < leaves_of s.h) where
    abbrev shown : ℕ → Contents
    shown d = T (path_bucket s.h q d)

    abbrev beside : ℕ → Record
    beside = beside_of s.h q T

    buckets-sound : path_sound s.h q shown rule ≡ true
    unfolding path_sound
    buckets-sound = each-every _ (up_from 1 s.h) (λ d i. level d (levels-range 1 s.h i))
      where
        level : (d : ℕ) → (1 ≤ d) × (d < 1 + s.h)
            → every (sound s.h rule d (path_bucket s.h q d)) ((shown d).least ∷ (shown d).slots) ≡ true
        level d r =
            let t = path_inside s.h q inside d (omega (arith, r.1)) in
            let band = path-band s.h q inside d (omega (arith, r.1)) in
            each-every (sound s.h rule d (path_bucket s.h q d)) ((shown d).least ∷ (shown d).slots) (λ x m. noted-sound d _ band.0 band.1 x
            (⊎_elim (λ e. rw e (least-noted s rule T live g _ t)) (λ i. g.housed.stands _ t x i) (Memᴰ.cases_cons m)))

    siblings-sound : (from : ℕ) → 1 ≤ from → siblings_sound s.h q beside rule from ≡ true
    unfolding siblings_sound
    siblings-sound from some = each-every _ (up_from from (suc s.h - from)) (λ d i. level d (levels-range from (suc s.h - from) i))
      where
        level : (d : ℕ) → (from ≤ d) × (d < from + (suc s.h - from))
            → sound s.h rule d (sibling_of (path_bucket s.h q d)) (beside d) ≡ true
        level d r =
            let l : 1 ≤ d = omega (arith, r.0) in
            let m : d ≤ s.h = omega (arith, r.0, r.1) in
            let band = sibling-band s.h q inside d l m in
            let t = sibling-in-tree s.h q inside d l m in
            noted-sound d _ band.0 band.1 _ (least-noted s rule T live g _ (record { some = omega (arith, t.0); most = t.1 }))

    -- ---- clause 3
    pub kids-shown : (d : ℕ) → d ≤ s.h → kids_shown s.h q shown beside d ≡ children_in s.h T (path_bucket s.h q d)
    unfolding kids_shown
    kids-shown d l = elim (dec_le s.h d) [
      | yes m ↦
          let n : d ≡ s.h = omega arith in
          rw (le-ltb d s.h m) (sym (children-leaf s.h T _ (rw n (path-band s.h q inside s.h (omega arith)).0)))
      | no m ↦
          let next : suc d ≤ s.h = omega arith in
          let band = (path-band s.h q inside d l).1 in
          let low = (path-in-tree s.h q inside (suc d) (omega arith) next).0 in
          rw (lt-ltb d s.h next)
          (children-in-order T (path_bucket s.h q d) (path_bucket s.h q (suc d)) low (path_parent s.h q d next)
          ∙ sym (children-inner s.h T _ (omega (arith, band, pow_mono {i = suc d} {j = s.h} next))))
    ]

    leasts-true : leasts_true s.h q shown beside rule ≡ true
    unfolding leasts_true
    leasts-true = each-every _ (up_from 1 s.h) (λ d i.
        let r = levels-range 1 s.h i in
        let l : d ≤ s.h = omega (arith, r.1) in
        true_same (g.leasts _ (path_inside s.h q inside d l) ∙ ap (least_of rule (shown d).slots) (sym (kids-shown d l))))

    pub path-good : (from : ℕ) → 1 ≤ from → PathGood s.h rule from (shown_by s.h q T)
    path-good from some = record { buckets = buckets-sound; siblings = siblings-sound from some; leasts = leasts-true }

    -- ---- all three
    pub way-root : take s.r (way_of s.h q T) ≡ (T root).slots
    unfolding level_of
    way-root =
        joined-levels s.r s.z s.h (slots_on s.h q T)
        (way-sized s q inside T live g.housed (live-label s rule T live g)) 0 (omega arith)
        ∙ ap (λ (b : Bucket). (T b).slots) (path-root s.h q inside)

    pub good-path : 1 ≤ s.h → path_damaged s.h s.r rule (T root).least (shown_by s.h q T) (way_of s.h q T) ≡ false
    unfolding kids_shown
    good-path high =
        let top = path-root s.h q inside in
        let kids = kids-shown 0 (omega arith) in
        not-damaged s.h s.r rule (T root).least (shown_by s.h q T) (way_of s.h q T)
        (record {
          path = path-good 1 (omega arith);
          stamps = once-test (housed-parts s q inside T live g.housed (live-label s rule T live g)).once;
          root =
              rw (way-root, (rw (lt-ltb 0 s.h high) at kids), top)
              (g.leasts root (rw top at (path_inside s.h q inside 0 (omega arith))));
        })
