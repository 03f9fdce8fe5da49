-- A good heap's card is no BadCard: no more root records than live events, and a least record that is as it should be.
-- Assumes nothing.
use Prim.Native.Nat.{ℕ, ◌≤◌}
use mathlib.Core.Bool.{true, false, ◌||◌, true≢false}
use mathlib.Core.List.{List, Memᴰ}
use mathlib.Core.Logic.{⊎_elim, ◌⊎◌, inl, inr}
use mathlib.Core.Path.{◌≡◌, refl, sym, ap, ◌∙◌}
use mathlib.Mathlib.Data.Bool.Basic.{dichotomy}
use native.Mathlib.Decide.{dec_le}
use native.Mathlib.Omega.{arith}
use lib.ListN.{length, take}
use lib.Pow.{pow_pos}
use borrow.Author.Tests.{ne_eqb, le-ltb}
use Rattle.record.specs.declared.Record.{Record}
use Rattle.record.specs.declared.Rule.{Rule}
use Rattle.record.specs.Standing.{dummy, is_dummy, may_stand}
use Rattle.record.specs.Order.{before}
use Rattle.record.specs.Many.{reals}
use Rattle.record.proofs.StandingLaws.{is-dummy, dummy-stands, proper-stands}
use Rattle.record.proofs.ManyLaws.{each-every}
use Rattle.path.specs.declared.sizes.Sizes.{Sizes}
use Rattle.path.specs.Sizes.{leaves_of}
use Rattle.path.specs.Path.{root as the_root}
use Rattle.path.specs.Layout.{Contents}
use Rattle.parts.specs.declared.Parts.{Parts}
use Rattle.parts.specs.Parts.{rule_of}
use Rattle.judge.specs.BadParts.{odd_least, bad_parts}
use Rattle.judge.proofs.FitLaws.{fit_parts}
use Rattle.tree.specs.Tree.{Tree, InTree, tree_of}
use Rattle.tree.proofs.PathFetch.{tree-root}
use Rattle.good.specs.Good.{Good}
use Rattle.good.specs.Live.{without}
use Rattle.good.specs.Heap.{Heap}
use Rattle.good.proofs.OnceLaws.{Once, none, more, test-once}
use Rattle.good.proofs.LiveLaws.{without-stay, without-length}
use Rattle.good.proofs.LowLaws.{live-proper, live-real, root-later, root_live, root_none}

-- ---- no more of them than live events
pub few-reals : {xs : List Record} (live : List Record) → Once xs → ((x : Record) → Memᴰ x xs → is_dummy x ≡ false → Memᴰ x live)
    → reals xs ≤ length live
unfolding reals
few-reals live none all = omega arith
few-reals live (more {x} {xs} f o) all = elim (dichotomy (is_dummy x)) [
  | inl real ↦
      let here = all x (Memᴰ.head refl) real in
      let fewer = without-length x.stamp live here refl in
      let rest = few-reals (without x.stamp live) o (λ y m d. without-stay x.stamp live (all y (Memᴰ.tail m) d)
      (λ e. f y m (record { one = real; two = d; stamp = sym e }))) in
      rw real (omega arith)
  | inr void ↦ rw void (few-reals live o (λ y m d. all y (Memᴰ.tail m) d))
]

-- ---- a least record as it should be
odd-live : (rule : Rule) (c : ℕ) (x : Record) → is_dummy x ≡ false → may_stand rule x ≡ true → 1 ≤ c
    → odd_least rule c x ≡ false
unfolding odd_least
odd-live rule c x real stands l = rw (real, ne_eqb c 0 (omega arith), stands)

odd-none : (rule : Rule) (c : ℕ) (x : Record) → is_dummy x ≡ true → may_stand rule x ≡ true → c ≡ 0
    → odd_least rule c x ≡ false
unfolding odd_least
odd-none rule c x void stands e = rw (void, le-ltb 0 c (omega arith), stands)

module _ (p : Parts) (root : List Record) (tree : List ℕ) (live : List Record) (H : Heap p root tree live) where
  abbrev s : Sizes
  s = p.sizes

  abbrev t : ℕ
  t = p.t

  abbrev c : ℕ
  c = p.c

  abbrev least : Record
  least = p.least

  abbrev T : Tree
  T = tree_of s.z (take s.r root) least tree

  abbrev g : Good s (rule_of p) T live
  g = H.good

  holds : T the_root ≡ record { least = least; slots = take s.r root }
  holds = tree-root s.z (take s.r root) least tree

  in-root : InTree s.h the_root
  in-root = record { some = omega arith; most = omega (arith, pow_pos s.h) }

  pub root-slots : (T the_root).slots ≡ take s.r root
  root-slots = ap (λ (c : Contents). c.slots) holds

  pub root-least : (T the_root).least ≡ least
  root-least = ap (λ (c : Contents). c.least) holds

  -- a root slot holds the dummy or a live event
  slot : (x : Record) → Memᴰ x (take s.r root) → (x ≡ dummy) ⊎ Memᴰ x live
  slot x m = ⊎_elim inl (λ r. inr r.0) (g.housed.stands the_root in-root x (rw root-slots m))

  -- the least record is a live event, or there is none
  pub least-live : 1 ≤ c → Memᴰ least live
  least-live l = rw root-least at (root_live s (rule_of p) T live g (omega (arith, H.count)))

  pub least-real : 1 ≤ c → is_dummy least ≡ false
  least-real l = live-real s (rule_of p) T live g least (least-live l)

  pub least-none : c ≡ 0 → least ≡ dummy
  least-none e = sym root-least ∙ root_none s (rule_of p) T live g (omega (arith, H.count))

  odd : odd_least (rule_of p) c least ≡ false
  odd = elim (dec_le 1 c) [
    | yes l ↦
        let m = least-live l in
        odd-live (rule_of p) c least (live-real s (rule_of p) T live g least m)
        (proper-stands (rule_of p) least (live-proper s (rule_of p) T live g least m)) l
    | no l ↦
        let e : c ≡ 0 = omega arith in
        let void = least-none e in
        odd-none (rule_of p) c least (ap is_dummy void ∙ is-dummy) (rw void (dummy-stands (rule_of p))) e
  ]

  pub heap-card : bad_parts p root ≡ false
  heap-card =
      fit_parts p root (record {
        sizes = H.sizes;
        spent = H.spent;
        live = (H.most, H.begun);
        slots = each-every _ (take s.r root) (λ x m. ⊎_elim (λ e. rw e (dummy-stands (rule_of p)))
            (λ i. proper-stands (rule_of p) x (live-proper s (rule_of p) T live g x i)) (slot x m));
        past = H.past;
        stamps = rw (← root-slots) (g.housed.once the_root in-root);
        few = rw H.count (few-reals live (test-once _ (rw (← root-slots) (g.housed.once the_root in-root)))
            (λ x m d. ⊎_elim (λ e. absurd (true≢false (sym is-dummy ∙ (rw e at d)))) (λ i. i) (slot x m)));
        odd = odd;
        first = each-every _ (take s.r root) (λ x m. later x m);
      })
    where
      later : (x : Record) → Memᴰ x (take s.r root) → (is_dummy x || before (rule_of p) least x) ≡ true
      later x m =
          let e : before (rule_of p) least x ≡ true = rw root-least at (root-later s (rule_of p) T live g the_root in-root x (rw root-slots m)) in
          elim (dichotomy (is_dummy x)) [
            | inl f ↦ rw (f, e)
            | inr v ↦ rw v
          ]
