-- The live events on a way and off it: a good heap is so parted for every leaf's way, an eviction keeps the parting, a
-- removal and an insertion change it as they should, and a Tree into which the way is laid back is good again. Assumes
-- nothing.
use Prim.Native.Nat.{ℕ, zero, suc, ◌+◌, ◌*◌, ◌≤◌, ◌<◌}
use mathlib.Core.Bool.{Bool, true, false, not, ◌&&◌, true≢false}
use mathlib.Core.List.Permᴰ
use mathlib.Core.List.{List, Memᴰ}
use mathlib.Core.Logic.{⊎_elim, ◌⊎◌, inl, inr}
use mathlib.Core.Path.{◌≡◌, refl, sym, ap, ◌∙◌}
use mathlib.Mathlib.Data.Bool.Basic.{dichotomy}
use native.Mathlib.Decide.{dec_le}
use native.Mathlib.Nat.{mul-le-mul_left}
use native.Mathlib.Omega.{arith}
use lib.ListN.{length}
use lib.Pow.{pow_pos}
use lib.Seq.{length-take-le}
use borrow.Author.Tests.{ne_eqb}
use Rattle.record.specs.declared.Leaf.{Leaf}
use Rattle.record.specs.declared.Bucket.{Bucket}
use Rattle.record.specs.declared.Record.{Record}
use Rattle.record.specs.Standing.{dummy, is_dummy}
use Rattle.record.proofs.StandingLaws.{dummy-is}
use Rattle.path.specs.declared.sizes.Sizes.{Sizes}
use Rattle.path.specs.Sizes.{leaves_of}
use Rattle.path.specs.Path.{number, root, path_bucket, holds}
use Rattle.path.specs.Layout.{Contents}
use Rattle.path.proofs.PathLaws.{path-root, path-in-tree, levels-apart, holds-own, holds-true}
use Rattle.way.specs.Evict.{fits, evict}
use Rattle.way.proofs.EvictLaws.{length-evict}
use Rattle.way.proofs.KeptLaws.{evict-keeps}
use Rattle.least.proofs.LeastLaws.{length-slots}
use Rattle.tree.specs.Tree.{Tree, InTree, slots_on, way_of, joined}
use Rattle.tree.specs.Path.{OnPath, OffPath}
use Rattle.tree.proofs.JoinLaws.{level_of, Sized, level-joined, joined-level, joined_length, joined-levels, levels-joined}
use Rattle.tree.proofs.PathLaws.{Lays, path-or, level-apart}
use Rattle.good.specs.Good.{width, Housed}
use Rattle.good.proofs.OnceLaws.{Shares, shares-sym, Across, Once, once-test, test-once, once-joined, joined_once, joined-across, perm-mem, perm-once}
use Rattle.good.proofs.FitLaws.{Fitting, evict-fits, fitting-level, level-fitting}

-- the second of two that both hold
and_right : (a b : Bool) → (a && b) ≡ true → b ≡ true
and_right true b e = e
and_right false b e = absurd (true≢false (sym e))

-- ---- buckets of a path
module _ (h : ℕ) (q : Leaf) (inside : q.0 < leaves_of h) where
  pub path_inside : (d : ℕ) → d ≤ h → InTree h (path_bucket h q d)
  path_inside zero l = rw (path-root h q inside) (record { some = omega arith; most = omega (arith, pow_pos h) })
  path_inside (suc d) l =
      let t = path-in-tree h q inside (suc d) (omega arith) l in
      record { some = omega (arith, t.0); most = t.1 }

  -- two paths meet at one level
  pub one-level : (l : Leaf) → l.0 < leaves_of h → (d e : ℕ) → d ≤ h → e ≤ h → path_bucket h q d ≡ path_bucket h l e → d ≡ e
  one-level l in' d e m n same = elim (dec_le d e) [
    | yes a ↦ elim (dec_le e d) [
      | yes b ↦ omega arith
      | no b ↦ absurd (omega (arith, levels-apart h q l inside in' d e (omega arith) n, ap number same))
    ]
    | no a ↦ absurd (omega (arith, levels-apart h l q in' inside e d (omega arith) m, ap number same))
  ]

  pub on-path-holds : (l : Leaf) → l.0 < leaves_of h → (d : ℕ) → d ≤ h → OnPath h l (path_bucket h q d) → holds h l d (path_bucket h q d) ≡ true
  on-path-holds l in' d m o =
      let e = one-level l in' d o.level m o.within o.is in
      rw (o.is, ← e) (holds-own h l d)

pub root-width : (s : Sizes) (b : Bucket) → b ≡ root → width s b ≡ s.r
root-width s b e = rw e

pub other_width : (s : Sizes) (b : Bucket) → 2 ≤ number b → width s b ≡ s.z
other_width s b l = rw (ne_eqb (number b) 1 (omega arith))

-- ---- the live events, those on a way of leaf q and those in buckets off its path
pub record Parts (s : Sizes) (q : Leaf) (T : Tree) (live w : List Record) : Type 0 where
  pub long : length w ≡ s.r + s.z * s.h
  pub stands : (x : Record) → Memᴰ x w → (x ≡ dummy) ⊎ Memᴰ x live
  pub fit : Fitting (fits s.h q) s.r s.z s.h w
  pub once : Once w
  pub rest : (b : Bucket) → InTree s.h b → OffPath s.h q b → (x : Record) → Memᴰ x (T b).slots
      → (x ≡ dummy) ⊎ (Memᴰ x live × OnPath s.h x.label b)
  pub seated : (x : Record) → Memᴰ x live
      → Memᴰ x w ⊎ ((b : Bucket) × InTree s.h b × OffPath s.h q b × Memᴰ x (T b).slots)
  pub across : (b : Bucket) → InTree s.h b → OffPath s.h q b → Across w (T b).slots

-- ---- a way taken out
module _ (s : Sizes) (q : Leaf) (inside : q.0 < leaves_of s.h) (T : Tree) (live : List Record) (H : Housed s T live)
    (labels : (x : Record) → Memᴰ x live → x.label.0 < leaves_of s.h) where
  pub way-sized : Sized s.r s.z s.h (slots_on s.h q T)
  way-sized =
      record {
        root = H.sized _ (path_inside s.h q inside 0 (omega arith)) ∙ root-width s _ (path-root s.h q inside);
        below = λ d l m. H.sized _ (path_inside s.h q inside d m) ∙ other_width s _ (path-in-tree s.h q inside d l m).0;
      }

  stands-fits : (d : ℕ) → d ≤ s.h → (x : Record) → Memᴰ x (slots_on s.h q T d) → (x ≡ dummy) ⊎ (fits s.h q d x ≡ true)
  unfolding fits
  stands-fits d l x m = elim (dichotomy (is_dummy x)) [
    | inl f ↦ ⊎_elim inl
        (λ o. inr (rw (f, on-path-holds s.h q inside x.label (labels x o.0) d l o.1)))
        (H.stands _ (path_inside s.h q inside d l) x m)
    | inr t ↦ inl (dummy-is x t)
  ]

  pub housed-parts : Parts s q T live (way_of s.h q T)
  housed-parts =
      let long = joined_length s.r s.z s.h (slots_on s.h q T) way-sized s.h (omega arith) in
      record {
        long = long;
        stands = λ x m.
            let r = joined-level (slots_on s.h q T) s.h m in
            ⊎_elim inl (λ o. inr o.0) (H.stands _ (path_inside s.h q inside r.0 r.1) x r.2);
        fit = level-fitting (fits s.h q) s.r s.z s.h (way_of s.h q T) long
            (λ d l m x i. stands-fits d m x (rw (joined-levels s.r s.z s.h (slots_on s.h q T) way-sized d m) at i));
        once = once-joined (slots_on s.h q T) s.h (λ d l. test-once _ (H.once _ (path_inside s.h q inside d l)))
            (λ d e l m x y i j n. level-apart s.h q inside d e l m
            (H.apart _ _ (path_inside s.h q inside d (omega arith)) (path_inside s.h q inside e m) x y i j n.one n.two n.stamp));
        rest = λ b t o x m. H.stands b t x m;
        seated = λ x m.
            let p = H.seated x m in
            ⊎_elim (λ o. inl (level-joined (slots_on s.h q T) o.level s.h o.within (rw o.is at p.2)))
            (λ o. inr (p.0, p.1, o, p.2)) (path-or s.h q p.0);
        across = λ b t o x y i j n.
            let r = joined-level (slots_on s.h q T) s.h i in
            o (record {
              level = r.0;
              within = r.1;
              is = sym (H.apart _ _ (path_inside s.h q inside r.0 r.1) t x y r.2 j n.one n.two n.stamp);
            });
      }

-- ---- a way evicted
module _ (s : Sizes) (q : Leaf) (T : Tree) (live w : List Record) (P : Parts s q T live w) where
  pub parts-evicted : Parts s q T live (evict s.h s.z s.r q w)
  parts-evicted =
      let n = P.long in
      let keeps = evict-keeps s.h s.z s.r q w (omega arith) in
      record {
        long = length-evict s.h s.z s.r q w ∙ n;
        stands = λ x m. P.stands x (perm-mem keeps m);
        fit = evict-fits s.h s.z s.r q w (omega arith) P.fit;
        once = perm-once (Permᴰ.symm keeps) P.once;
        rest = P.rest;
        seated = λ x m. ⊎_elim (λ i. inl (perm-mem (Permᴰ.symm keeps) i)) inr (P.seated x m);
        across = λ b t o x y i j n. P.across b t o x y (perm-mem keeps i) j n;
      }

-- ---- a way laid back
module _ (s : Sizes) (q : Leaf) (inside : q.0 < leaves_of s.h) (T U : Tree) (old live w : List Record) (H : Housed s T old)
    (labels : (x : Record) → Memᴰ x live → x.label.0 < leaves_of s.h) (P : Parts s q T live w) (F : ℕ → Contents)
    (lays : Lays s.h q F T U) (slots : (d : ℕ) → d ≤ s.h → (F d).slots ≡ level_of s.r s.z w d) where
  abbrev level : ℕ → List Record
  level = level_of s.r s.z w

  whole : joined level s.h ≡ w
  whole = levels-joined s.r s.z w s.h P.long

  on-slots : (b : Bucket) (o : OnPath s.h q b) → (U b).slots ≡ level o.level
  on-slots b o = ap (λ (c : Bucket). (U c).slots) o.is ∙ ap (λ (c : Contents). c.slots) (lays.on o.level o.within)
      ∙ slots o.level o.within

  off-slots : (b : Bucket) → OffPath s.h q b → (U b).slots ≡ (T b).slots
  off-slots b o = ap (λ (c : Contents). c.slots) (lays.off b o)

  in-way : (b : Bucket) (o : OnPath s.h q b) (x : Record) → Memᴰ x (U b).slots → Memᴰ x w
  in-way b o x m = rw whole at (level-joined level o.level s.h o.within (rw (on-slots b o) at m))

  level-wide : (d : ℕ) → d ≤ s.h → length (level d) ≡ width s (path_bucket s.h q d)
  unfolding level_of
  level-wide zero l = length-take-le s.r w (omega (arith, P.long)) ∙ sym (root-width s _ (path-root s.h q inside))
  level-wide (suc d) l =
      length-slots s.r s.z w (suc d) (omega arith) (omega (arith, P.long, mul-le-mul_left {m = suc d} {n = s.h} s.z l))
      ∙ sym (other_width s _ (path-in-tree s.h q inside (suc d) (omega arith) l).0)

  way-stands : (d : ℕ) → d ≤ s.h → (x : Record) → Memᴰ x (level d)
      → (x ≡ dummy) ⊎ (Memᴰ x live × OnPath s.h x.label (path_bucket s.h q d))
  unfolding fits
  way-stands d l x m =
      ⊎_elim inl (λ i. on d l m i) (P.stands x (rw whole at (level-joined level d s.h l m)))
    where
      on : (d : ℕ) → d ≤ s.h → Memᴰ x (level d) → Memᴰ x live
          → (x ≡ dummy) ⊎ (Memᴰ x live × OnPath s.h x.label (path_bucket s.h q d))
      on zero l m i = inr (
        i,
        record {
          level = 0;
          within = omega arith;
          is = path-root s.h q inside ∙ sym (path-root s.h x.label (labels x i));
        },
      )
      on (suc d) l m i =
          ⊎_elim inl (λ f. inr (
            i,
            record {
              level = suc d;
              within = l;
              is = holds-true s.h x.label (suc d) _ (and_right (not (is_dummy x)) _ f);
            },
          ))
          (fitting-level (fits s.h q) s.r s.z s.h w P.long P.fit (suc d) (omega arith) l x m)

  pub parts-housed : Housed s U live
  parts-housed =
      record {
        sized = λ b t. ⊎_elim
            (λ o. ap length (on-slots b o) ∙ level-wide o.level o.within ∙ ap (width s) (sym o.is))
            (λ o. ap length (off-slots b o) ∙ H.sized b t) (path-or s.h q b);
        stands = λ b t x m. ⊎_elim
            (λ o. rw o.is (way-stands o.level o.within x (rw (on-slots b o) at m)))
            (λ o. P.rest b t o x (rw (off-slots b o) at m)) (path-or s.h q b);
        seated = λ x m. ⊎_elim
            (λ i.
            let r = joined-level level s.h (rw (← whole) at i) in
            let b = path_bucket s.h q r.0 in
            let o : OnPath s.h q b = record { level = r.0; within = r.1; is = refl } in
            (b, path_inside s.h q inside r.0 r.1, rw (on-slots b o) r.2))
            (λ i. (i.0, i.1, rw (off-slots i.0 i.2) i.3)) (P.seated x m);
        once = λ b t. ⊎_elim
            (λ o. rw (on-slots b o) (once-test (joined_once level s.h (rw whole P.once) o.level o.within)))
            (λ o. rw (off-slots b o) (H.once b t)) (path-or s.h q b);
        apart = λ a b ta tb x y i j dx dy e.
            let n : Shares x y = record { one = dx; two = dy; stamp = e } in
            ⊎_elim
            (λ o. ⊎_elim
            (λ p. o.is ∙ ap (path_bucket s.h q) (same-level a b o p x y i j n) ∙ sym p.is)
            (λ p. absurd (P.across b tb p x y (in-way a o x i) (rw (off-slots b p) at j) n)) (path-or s.h q b))
            (λ o. ⊎_elim
            (λ p. absurd (P.across a ta o y x (in-way b p y j) (rw (off-slots a o) at i) (shares-sym n)))
            (λ p. H.apart a b ta tb x y (rw (off-slots a o) at i) (rw (off-slots b p) at j) dx dy e) (path-or s.h q b))
            (path-or s.h q a);
      }
    where
      same-level : (a b : Bucket) (o : OnPath s.h q a) (p : OnPath s.h q b) (x y : Record) → Memᴰ x (U a).slots → Memᴰ y (U b).slots
          → Shares x y → o.level ≡ p.level
      same-level a b o p x y i j n =
          let once = rw (← whole) at P.once in
          let i' = rw (on-slots a o) at i in
          let j' = rw (on-slots b p) at j in
          elim (dec_le o.level p.level) [
            | yes u ↦ elim (dec_le p.level o.level) [
              | yes v ↦ omega arith
              | no v ↦ absurd (joined-across level s.h once o.level p.level (omega arith) p.within x y i' j' n)
            ]
            | no u ↦ absurd (joined-across level s.h once p.level o.level (omega arith) o.within y x j' i' (shares-sym n))
          ]
