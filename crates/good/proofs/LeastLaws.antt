-- Least records: the rule holds in every bucket once a path is mended, and where it holds in every bucket the root's least
-- record is the least of all live events. Assumes nothing.
use Prim.Native.Nat.{ℕ, suc, ◌+◌, ◌*◌, ◌-◌, ◌/◌, ◌%◌, ◌≤◌, ◌<◌}
use mathlib.Core.Bool.{true, false, cond}
use mathlib.Core.List.{List, [], ◌∷◌}
use mathlib.Core.Logic.{⊎_elim}
use mathlib.Core.Path.{◌≡◌, refl, sym, ap, ◌∙◌}
use native.Mathlib.Decide.{dec_le}
use native.Mathlib.Omega.{arith}
use lib.Dec.{eqb}
use lib.Pow.{pow_mono}
use borrow.Author.Tests.{eqb-true, eqb-false, lt-ltb, le-ltb}
use Rattle.record.specs.declared.Leaf.{Leaf}
use Rattle.record.specs.declared.Bucket.{Bucket}
use Rattle.record.specs.declared.Record.{Record}
use Rattle.record.specs.declared.Rule.{Rule}
use Rattle.record.specs.Order.{least_of}
use Rattle.path.specs.declared.sizes.Sizes.{Sizes}
use Rattle.path.specs.Sizes.{leaves_of}
use Rattle.path.specs.Path.{bucket, number, path_bucket, sibling_of, lower_child, upper_child}
use Rattle.path.specs.Layout.{Contents}
use Rattle.path.proofs.PathLaws.{path-band, path_parent, path-in-tree, sibling-off}
use Rattle.least.specs.Least.{slots_at, in_order, kids}
use Rattle.tree.specs.Tree.{Tree, InTree, beside_of}
use Rattle.tree.specs.Path.{OffPath}
use Rattle.tree.proofs.PathLaws.{Lays, path-or, child-off}
use Rattle.tree.proofs.WorkLaws.{bucket_after}
use Rattle.good.specs.Good.{both_children, children_in, LeastTrue}
use Rattle.tree.proofs.JoinLaws.{level_of}

-- ---- children
module _ (h : ℕ) (T : Tree) (b : Bucket) where
  pub children-inner : number b < leaves_of h → children_in h T b ≡ both_children T b
  unfolding children_in
  children-inner l = rw (lt-ltb (number b) (leaves_of h) l)

  pub children-leaf : leaves_of h ≤ number b → children_in h T b ≡ []
  unfolding children_in
  children-leaf l = rw (le-ltb (number b) (leaves_of h) l)

-- a bucket and its sibling are their parent's children, the lower first
pub children-in-order : (T : Tree) (p b : Bucket) → 2 ≤ number b → number p ≡ number b / 2
    → in_order b (T b).least (T (sibling_of b)).least ≡ both_children T p
unfolding in_order sibling_of
children-in-order T p b l e = (elim (eqb (number b % 2) 0) as (λ c. eqb (number b % 2) 0 ≡ c
    → cond c ((T b).least ∷ (T (cond c (bucket (number b + 1)) (bucket (number b - 1)))).least ∷ [])
    ((T (cond c (bucket (number b + 1)) (bucket (number b - 1)))).least ∷ (T b).least ∷ [])
    ≡ both_children T p) [
      | true ↦ λ i.
          let even = eqb-true (number b % 2) 0 i in
          let low : 2 * number p ≡ number b = omega arith in
          rw low
      | false ↦ λ i.
          let odd : number b % 2 ≡ 0 → ⊥ = eqb-false (number b % 2) 0 i in
          let low : 2 * number p ≡ number b - 1 = omega arith in
          let up : number b - 1 + 1 ≡ number b = omega arith in
          rw (low, up)
    ]) refl

-- ---- a path mended
module _ (rule : Rule) (s : Sizes) (q : Leaf) (inside : q.0 < leaves_of s.h) (T U : Tree) (after : List Record)
    (lays : Lays s.h q (bucket_after rule s q (beside_of s.h q T) after) T U) where
  abbrev below : ℕ → List Record
  below j = kids rule s.h q (slots_at s.r s.z after) (beside_of s.h q T) j

  sibling-kept : (d : ℕ) → 1 ≤ d → d ≤ s.h → (U (sibling_of (path_bucket s.h q d))).least ≡ beside_of s.h q T d
  sibling-kept d l m =
      ap (λ (c : Contents). c.least)
      (lays.off _ (λ o. sibling-off s.h q inside d l m o.level o.within (ap number o.is)))

  on-least : (d : ℕ) → d ≤ s.h → (U (path_bucket s.h q d)).least ≡ least_of rule (level_of s.r s.z after d) (below (s.h - d))
  on-least d l = ap (λ (c : Contents). c.least) (lays.on d l)

  kids-are : (d : ℕ) → d ≤ s.h → below (s.h - d) ≡ children_in s.h U (path_bucket s.h q d)
  unfolding kids level_of
  kids-are d l = elim (dec_le s.h d) [
    | yes m ↦
        let e : s.h - d ≡ 0 = omega arith in
        let n : d ≡ s.h = omega arith in
        rw e (sym (children-leaf s.h U (path_bucket s.h q d) (rw n (path-band s.h q inside s.h (omega arith)).0)))
    | no m ↦
        let next : suc d ≤ s.h = omega arith in
        let e : s.h - d ≡ suc (s.h - suc d) = omega arith in
        let n : s.h - (s.h - suc d) ≡ suc d = omega arith in
        let band = (path-band s.h q inside d l).1 in
        let low = (path-in-tree s.h q inside (suc d) (omega arith) next).0 in
        let order = children-in-order U (path_bucket s.h q d) (path_bucket s.h q (suc d)) low (path_parent s.h q d next) in
        let own = on-least (suc d) next in
        let other = sibling-kept (suc d) (omega arith) next in
        rw (e, n, ← own, ← other) (order
        ∙ sym (children-inner s.h U (path_bucket s.h q d) (omega (arith, band, pow_mono {i = suc d} {j = s.h} next))))
  ]

  on-true : (d : ℕ) → d ≤ s.h → LeastTrue rule s.h U (path_bucket s.h q d)
  on-true d l =
      let slots = ap (λ (c : Contents). c.slots) (lays.on d l) in
      on-least d l ∙ rw (slots, kids-are d l)

  off-true : (b : Bucket) → InTree s.h b → OffPath s.h q b → LeastTrue rule s.h T b → LeastTrue rule s.h U b
  off-true b t off true' = elim (dec_le (leaves_of s.h) (number b)) [
    | yes m ↦ rw (lays.off b off, children-leaf s.h U b m) (rw (children-leaf s.h T b m) at true')
    | no m ↦
        let inner : number b < leaves_of s.h = omega arith in
        let low = lays.off (lower_child b) (child-off s.h q inside b (lower_child b) (omega (arith, t.some)) (omega arith) off) in
        let up = lays.off (upper_child b) (child-off s.h q inside b (upper_child b) (omega (arith, t.some)) (omega arith) off) in
        rw (lays.off b off, children-inner s.h U b inner, low, up) (rw (children-inner s.h T b inner) at true')
  ]

  pub mended-true : ((b : Bucket) → InTree s.h b → OffPath s.h q b → LeastTrue rule s.h T b) → (b : Bucket) → InTree s.h b
      → LeastTrue rule s.h U b
  mended-true old b t =
      ⊎_elim (λ o. rw o.is (on-true o.level o.within)) (λ o. off-true b t o (old b t o)) (path-or s.h q b)
