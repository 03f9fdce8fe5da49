-- An Insert keeps a heap good, and on a good heap what was fetched for its two paths is not Damaged. Assumes nothing.
use Prim.Native.Nat.{ℕ, zero, suc, ◌≤◌, ◌<◌}
use mathlib.Core.Bool.{true, false}
use mathlib.Core.List.Memᴰ
use mathlib.Core.List.{List, [], ◌∷◌, ◌++◌, Memᴰ}
use mathlib.Core.Logic.{⊎_elim}
use mathlib.Core.Path.{◌≡◌}
use native.Mathlib.Omega.{arith}
use lib.ListN.{length}
use lib.Pow.{pow_mono}
use lib.Seq.{take-append-le}
use Rattle.record.specs.declared.Leaf.{Leaf}
use Rattle.record.specs.declared.Record.{Record}
use Rattle.record.specs.declared.Rule.{Rule}
use Rattle.record.specs.Standing.{is_dummy, is_proper}
use Rattle.record.specs.Many.{every, stamp_twice}
use Rattle.record.proofs.StandingLaws.{proper-not-dummy}
use Rattle.record.proofs.ManyLaws.{each-every}
use Rattle.path.specs.declared.sizes.Sizes.{Sizes}
use Rattle.path.specs.Sizes.{leaves_of}
use Rattle.path.specs.Path.{root, path_bucket}
use Rattle.way.specs.Evict.{seek}
use Rattle.pair.specs.PairWork.{seated}
use Rattle.damage.specs.Damaged.{pair_damaged}
use Rattle.damage.proofs.DamagedLaws.{pair-not-damaged}
use Rattle.tree.specs.Tree.{Tree, InTree, way_of, slots_on}
use Rattle.tree.specs.Work.{after_first, inserted}
use Rattle.tree.proofs.ShownLaws.{below_of, way-below}
use Rattle.tree.proofs.HalvesLaws.{Halves, first-inside, first-child, second-child, second-off}
use Rattle.good.specs.Good.{Good}
use Rattle.good.proofs.OnceLaws.{shares-sym, Alone, Once, none, more, once-test, test-once, once-append, append-once}
use Rattle.good.proofs.PartsLaws.{Parts, path_inside, housed-parts}
use Rattle.good.proofs.ChangeLaws.{parts-inserted}
use Rattle.good.proofs.LeastLaws.{children-inner}
use Rattle.good.proofs.LowLaws.{live-proper, live-real, live-label}
use Rattle.good.proofs.WorkLaws.{worked-good}
use Rattle.good.proofs.DamageLaws.{shown_by, path-good, way-root}

module _ (s : Sizes) (first second : Leaf) (p : Halves s.h first second) (T : Tree) (live : List Record) (rule : Rule)
    (g : Good s rule T live) where
  abbrev in₁ : first.0 < leaves_of s.h
  in₁ = first-inside s.h first second p

  parts₁ : Parts s first T live (way_of s.h first T)
  parts₁ = housed-parts s first in₁ T live g.housed (live-label s rule T live g)

  -- ---- one more live event, with a stamp above all others
  module _ (new : Record) (fresh : (y : Record) → Memᴰ y live → y.stamp.0 < new.stamp.0)
      (proper : is_proper rule new ≡ true) (room : seek is_dummy s.r (way_of s.h first T) < s.r) where
    alone : Alone new live
    alone y m n = omega (arith, n.stamp, fresh y m)

    abbrev with-new : List Record
    with-new = live ++ (new ∷ [])

    all-proper : every (is_proper rule) with-new ≡ true
    all-proper = each-every _ with-new (λ x m. ⊎_elim
        (λ i. live-proper s rule T live g x i)
        (λ i. let e : x ≡ new = Memᴰ.eq_of_singleton i in rw e proper) (Memᴰ.append_cases live m))

    all_once : stamp_twice with-new ≡ false
    all_once =
        once-test (once-append (test-once live g.stamps) (more (λ y m n. Memᴰ.not-nil m) none)
        (λ x y i j n. let e : y ≡ new = Memᴰ.eq_of_singleton j in alone x i (shares-sym (rw e at n))))

    pub first_good : Good s rule (after_first rule s first new T) (live ++ (new ∷ []))
    first_good =
        worked-good s first in₁ T live with-new (seated s.r new (way_of s.h first T)) rule g.leaves g.housed
        (λ b t o. g.leasts b t) all-proper all_once
        (parts-inserted s first T live (way_of s.h first T) parts₁ new room (proper-not-dummy rule new proper) (live-real s rule T live g) alone)

    pub inserted-good : Good s rule (inserted rule s first second new T) (live ++ (new ∷ []))
    inserted-good =
        let T₁ = after_first rule s first new T in
        worked-good s second p.most T₁ with-new with-new (way_of s.h second T₁) rule first_good.leaves first_good.housed
        (λ b t o. first_good.leasts b t)
        all-proper all_once (housed-parts s second p.most T₁ with-new first_good.housed (live-label s rule T₁ with-new first_good))

  -- ---- Damaged is denied
  below-level : (k : ℕ) (x : Record) → Memᴰ x (below_of s.h second T k) → (d : ℕ) × (1 ≤ d) × (d ≤ k) × Memᴰ x (slots_on s.h second T d)
  unfolding below_of
  below-level zero x m = absurd (Memᴰ.not-nil m)
  below-level (suc k) x m =
      ⊎_elim (λ i. let r = below-level k x i in (r.0, r.1, omega (arith, r.2), r.3)) (λ i. (suc k, omega arith, omega arith, i))
      (Memᴰ.append_cases (below_of s.h second T k) m)

  pub pair-once : Once (way_of s.h first T ++ below_of s.h second T s.h)
  pair-once =
      let parts₂ = housed-parts s second p.most T live g.housed (live-label s rule T live g) in
      let below = (append-once (slots_on s.h second T 0) (below_of s.h second T s.h)
      (rw (way-below s.h second T) at parts₂.once)).second in
      once-append parts₁.once below (λ x y i j n.
      let r = below-level s.h y j in
      parts₁.across (path_bucket s.h second r.0) (path_inside s.h second p.most r.0 r.2)
      (second-off s.h first second p r.0 r.1 r.2) x y i r.3 n)

  pub good-pair :
      pair_damaged s.h s.r rule (T root).least (shown_by s.h first T) (shown_by s.h second T)
      (way_of s.h first T ++ below_of s.h second T s.h) ≡ false
  good-pair =
      let inner : 1 < leaves_of s.h = omega (arith, pow_mono {i = 1} {j = s.h} p.high) in
      let t : InTree s.h root = record { some = omega arith; most = omega arith } in
      let front : s.r ≤ length (way_of s.h first T) = omega (arith, parts₁.long) in
      pair-not-damaged s.h s.r rule (T root).least (shown_by s.h first T) (shown_by s.h second T) _
      (record {
        first = path-good s rule T live g first in₁ 2 (omega arith);
        second = path-good s rule T live g second p.most 2 (omega arith);
        stamps = once-test pair-once;
        root =
            rw (take-append-le, way-root s rule T live g first in₁, first-child s.h first second p, second-child s.h first second p)
            (rw (children-inner s.h T root inner) at (g.leasts root t));
      })
