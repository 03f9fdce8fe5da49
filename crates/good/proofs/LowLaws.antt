-- Where every least record is true: each is the dummy or a live event whose path holds its bucket, and the root's is the
-- least of all live events. Assumes nothing.
use Prim.Native.Nat.{ℕ, zero, suc, ◌+◌, ◌*◌, ◌/◌, ◌≤◌, ◌<◌}
use mathlib.Core.Bool.{true, false, true≢false}
use mathlib.Core.List.Memᴰ
use mathlib.Core.List.{List, [], ◌∷◌, ◌++◌, Memᴰ}
use mathlib.Core.Logic.{⊎_elim, ◌⊎◌, inl, inr}
use mathlib.Core.Path.{◌≡◌, refl, sym, ap, ◌∙◌}
use native.Mathlib.Decide.{dec_le}
use native.Mathlib.Omega.{arith}
use lib.ListN.{length}
use lib.Pow.{pow_pos}
use Rattle.record.specs.declared.Bucket.{Bucket}
use Rattle.record.specs.declared.Leaf.{Leaf}
use Rattle.record.specs.declared.Stamp.{Stamp}
use Rattle.record.specs.declared.Record.{Record}
use Rattle.record.specs.declared.Rule.{Rule}
use Rattle.record.specs.Standing.{dummy, is_dummy, is_proper}
use Rattle.record.specs.Order.{before, smallest, smallest_by}
use Rattle.record.proofs.StandingLaws.{proper-true, proper-not-dummy, known-below}
use Rattle.record.proofs.ManyLaws.{every-each}
use Rattle.record.proofs.OrderLaws.{ordered, smallest-low, smallest-in, dummy-after-proper}
use Rattle.path.specs.declared.sizes.Sizes.{Sizes}
use Rattle.path.specs.Sizes.{leaves_of}
use Rattle.path.specs.Path.{bucket, number, root, path_bucket, lower_child, upper_child}
use Rattle.path.proofs.PathLaws.{path-root, path_parent}
use Rattle.tree.specs.Tree.{Tree, InTree}
use Rattle.tree.specs.Path.{OnPath}
use Rattle.good.specs.Good.{children_in, Good}
use Rattle.good.proofs.OnceLaws.{Once, test-once, none, more}
use Rattle.good.proofs.LeastLaws.{children-inner, children-leaf}

-- where no stamp stands twice, a stamp names one record
pub stamp-names : {x y : Record} {w : List Record} → Once w → Memᴰ x w → Memᴰ y w → is_dummy x ≡ false → is_dummy y ≡ false
    → x.stamp.0 ≡ y.stamp.0 → x ≡ y
stamp-names none m _ dx dy s = elim m [ ]
stamp-names (more f o) (Memᴰ.head e) (Memᴰ.head g) dx dy s = e ∙ sym g
stamp-names {x} {y} (more f o) (Memᴰ.head e) (Memᴰ.tail n) dx dy s =
    absurd (f y n (record { one = rw e at dx; two = dy; stamp = rw e at s }))
stamp-names {x} {y} (more f o) (Memᴰ.tail m) (Memᴰ.head g) dx dy s =
    absurd (f x m (record { one = rw g at dy; two = dx; stamp = rw g at (sym s) }))
stamp-names (more f o) (Memᴰ.tail m) (Memᴰ.tail n) dx dy s = stamp-names o m n dx dy s

module _ (s : Sizes) (rule : Rule) (T : Tree) (live : List Record) (g : Good s rule T live) where
  pub live-proper : (x : Record) → Memᴰ x live → is_proper rule x ≡ true
  live-proper x m = every-each _ g.proper m

  pub live-real : (x : Record) → Memᴰ x live → is_dummy x ≡ false
  live-real x m = proper-not-dummy rule x (live-proper x m)

  pub live-label : (x : Record) → Memᴰ x live → x.label.0 < leaves_of s.h
  live-label x m = omega (arith, g.leaves, (proper-true rule x (live-proper x m)).label)

  pub live-stamp : (x : Record) → Memᴰ x live → x.stamp.0 < rule.below.0
  live-stamp x m = known-below rule x.stamp (proper-true rule x (live-proper x m)).stamp

  -- a child's path goes through its parent
  parent-on : (l : Leaf) → l.0 < leaves_of s.h → (b c : Bucket) → 2 ≤ number c → number c / 2 ≡ number b → OnPath s.h l c → OnPath s.h l b
  parent-on l inside b c low half o = go o.level o.within o.is
    where
      go : (d : ℕ) → d ≤ s.h → c ≡ path_bucket s.h l d → OnPath s.h l b
      go zero m e = absurd (omega (arith, ap number (e ∙ path-root s.h l inside)))
      go (suc d) m e =
          let up : number b ≡ number (path_bucket s.h l d) = sym half ∙ ap (λ (a : Bucket). number a / 2) e ∙ sym (path_parent s.h l d m) in
          record { level = d; within = omega arith; is = ap bucket up }

  -- ---- the dummy or a live event whose path holds the bucket
  abbrev pub Noted : Bucket → Record → Type 0
  Noted b x = (x ≡ dummy) ⊎ (Memᴰ x live × OnPath s.h x.label b)

  noted-child : (b c : Bucket) → 2 ≤ number c → number c / 2 ≡ number b → (x : Record) → x ≡ (T c).least → Noted c (T c).least → Noted b x
  noted-child b c low half x e n =
      rw e (⊎_elim inl (λ r. inr (r.0, parent-on (T c).least.label (live-label _ r.0) b c low half r.1)) n)

  -- from its children's
  module _ (b : Bucket) (t : InTree s.h b) (below : (c : Bucket) → InTree s.h c → number b < number c → Noted c (T c).least) where
    child : (c : Bucket) → number c < 2 * leaves_of s.h → number b < number c → number c / 2 ≡ number b → (T b).least ≡ (T c).least
        → Noted b (T b).least
    child c most later half e =
        noted-child b c (omega (arith, t.some)) half (T b).least e (below c (record { some = omega (arith, t.some); most = most }) later)

    children : (x : Record) → (T b).least ≡ x → Memᴰ x (children_in s.h T b) → Noted b (T b).least
    children x e m = elim (dec_le (leaves_of s.h) (number b)) [
      | yes l ↦ absurd (Memᴰ.not-nil (rw (children-leaf s.h T b l) at m))
      | no l ↦ ⊎_elim (λ i. child (lower_child b) (omega arith) (omega (arith, t.some)) (omega arith) (e ∙ i))
          (λ i. child (upper_child b) (omega arith) (omega (arith, t.some)) (omega arith) (e ∙ Memᴰ.eq_of_singleton i))
          (Memᴰ.cases_cons (rw (children-inner s.h T b (omega arith)) at m))
    ]

    noted_here : Noted b (T b).least
    noted_here =
        ⊎_elim (λ e. inl (g.leasts b t ∙ e))
        (λ m. ⊎_elim (λ i. g.housed.stands b t (T b).least (Memᴰ.cast (g.leasts b t) i)) (children _ (g.leasts b t))
        (Memᴰ.append_cases (T b).slots m))
        (smallest-in (before rule) ((T b).slots ++ children_in s.h T b))

  noted : (fuel : ℕ) (b : Bucket) → InTree s.h b → 2 * leaves_of s.h ≤ number b + fuel → Noted b (T b).least
  noted zero b t f = absurd (omega (arith, t.most))
  noted (suc fuel) b t f = noted_here b t (λ c u l. noted fuel c u (omega arith))

  pub least-noted : (b : Bucket) → InTree s.h b → Noted b (T b).least
  least-noted b t = noted (2 * leaves_of s.h) b t (omega arith)

  -- ---- no record of the tree comes before the root's least record
  abbrev top : Record
  top = (T root).least

  slot-later : (b : Bucket) → InTree s.h b → (x : Record) → Memᴰ x (T b).slots → before rule (T b).least x ≡ true
  slot-later b t x m = rw (g.leasts b t) (smallest-low (before rule) (ordered rule) (Memᴰ.append_left (children_in s.h T b) m))

  child-later : (b c : Bucket) → InTree s.h b → number b < leaves_of s.h → (c ≡ lower_child b) ⊎ (c ≡ upper_child b)
      → before rule (T b).least (T c).least ≡ true
  child-later b c t l e =
      rw (g.leasts b t) (smallest-low (before rule) (ordered rule) (Memᴰ.append_right (T b).slots (rw (children-inner s.h T b l)
      (⊎_elim (λ i. Memᴰ.head (ap (λ (a : Bucket). (T a).least) i))
      (λ i. Memᴰ.tail (Memᴰ.head (ap (λ (a : Bucket). (T a).least) i))) e))))

  climb : (fuel n : ℕ) → n ≤ fuel → 1 ≤ n → n < 2 * leaves_of s.h → before rule top (T (bucket n)).least ≡ true
  climb zero n f l m = absurd (omega arith)
  climb (suc fuel) n f l m = elim (dec_le n 1) [
    | yes k ↦ let e : n ≡ 1 = omega arith in rw e ((ordered rule).refl top)
    | no k ↦
        let b = bucket (n / 2) in
        let t : InTree s.h b = record { some = omega arith; most = omega arith } in
        (ordered rule).trans (climb fuel (n / 2) (omega arith) (omega arith) (omega arith))
        (child-later b (bucket n) t (omega arith) (elim (dec_le n (2 * (n / 2))) [
          | yes i ↦ inl (ap bucket (omega arith))
          | no i ↦ inr (ap bucket (omega arith))
        ]))
  ]

  pub root-later : (b : Bucket) → InTree s.h b → (x : Record) → Memᴰ x (T b).slots → before rule (T root).least x ≡ true
  root-later b t x m = (ordered rule).trans (climb (number b) (number b) (omega arith) t.some t.most) (slot-later b t x m)

  pub live-later : (x : Record) → Memᴰ x live → before rule (T root).least x ≡ true
  live-later x m = let p = g.housed.seated x m in root-later p.0 p.1 x p.2

  -- ---- the root's least record is the least of all live events
  root_in_lem : InTree s.h root
  root_in_lem = record { some = omega arith; most = omega (arith, pow_pos s.h) }

  pub root_live : 1 ≤ length live → Memᴰ (T root).least live
  root_live l = ⊎_elim (λ e. absurd (first live (λ x m. m) l e)) (λ r. r.0) (least-noted root root_in_lem)
    where
      first : (xs : List Record) → ((x : Record) → Memᴰ x xs → Memᴰ x live) → 1 ≤ length xs → (T root).least ≡ dummy → ⊥
      first [] all n e = omega arith
      first (x ∷ xs) all n e =
          let m = all x (Memᴰ.head refl) in
          true≢false (sym (rw e at (live-later x m)) ∙ dummy-after-proper rule x (live-proper x m))

  pub root_none : length live ≡ 0 → (T root).least ≡ dummy
  root_none n = ⊎_elim (λ e. e) (λ r. absurd (empty live n r.0)) (least-noted root root_in_lem)
    where
      empty : (xs : List Record) {x : Record} → length xs ≡ 0 → Memᴰ x xs → ⊥
      empty [] n m = Memᴰ.not-nil m
      empty (x ∷ xs) n m = omega arith

  pub root-smallest : (T root).least ≡ smallest rule live
  unfolding smallest_by
  root-smallest = elim (dec_le 1 (length live)) [
    | yes l ↦ same (root_live l)
    | no l ↦ root_none (omega arith) ∙ sym (none-smallest live (omega arith))
  ]
    where
      none-smallest : (xs : List Record) → length xs ≡ 0 → smallest rule xs ≡ dummy
      none-smallest [] n = refl
      none-smallest (x ∷ xs) n = absurd (omega arith)

      same : Memᴰ (T root).least live → (T root).least ≡ smallest rule live
      same m = ⊎_elim
          (λ e. absurd (true≢false (sym (rw e at (smallest-low (before rule) (ordered rule) m)) ∙ dummy-after-proper rule _ (live-proper _ m))))
          (λ i. stamp-names (test-once live g.stamps) m i (live-real _ m) (live-real _ i)
          (ap (λ (a : Stamp). a.0) ((ordered rule).tie (live-later _ i) (smallest-low (before rule) (ordered rule) m))))
          (smallest-in (before rule) live)
