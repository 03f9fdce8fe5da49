-- A fresh card and a filled tree are a good heap with no live event: "A fresh tree is all dummies." Assumes nothing.
use Prim.Native.Nat.{ℕ, zero, suc, ◌+◌, ◌-◌, ◌≤◌, ◌<◌}
use mathlib.Core.Bool.{true, true≢false}
use mathlib.Core.List.Memᴰ
use mathlib.Core.List.{List, [], ◌++◌, Memᴰ}
use mathlib.Core.Logic.{⊎_elim, inl}
use mathlib.Core.Path.{◌≡◌, refl, sym, ap, ◌∙◌}
use native.Mathlib.Decide.{dec_le}
use native.Mathlib.Omega.{arith}
use lib.ListN.{length, take, drop, replicate, length-replicate, replicate-append-replicate}
use lib.Seq.{take_at, drop_at}
use Rattle.record.specs.declared.Bucket.{Bucket}
use Rattle.record.specs.declared.Record.{Record}
use Rattle.record.specs.declared.Rule.{Rule}
use Rattle.record.specs.Standing.{rule_for, dummy, is_dummy}
use Rattle.record.specs.Order.{before, smallest}
use Rattle.record.specs.Many.{every, stamp_twice}
use Rattle.record.proofs.StandingLaws.{is-dummy}
use Rattle.record.proofs.ManyLaws.{each-every}
use Rattle.record.proofs.OrderLaws.{smallest-has}
use Rattle.path.specs.declared.sizes.Sizes.{Sizes}
use Rattle.path.specs.Sizes.{leaves_of, in_range}
use Rattle.path.specs.Path.{bucket, number, root as the_root, lower_child, upper_child}
use Rattle.path.specs.Layout.{Contents, fresh_tree}
use Rattle.path.proofs.SizesLaws.{in-range}
use Rattle.parts.specs.Parts.{parts_for}
use Rattle.copies.proofs.LayoutLaws.{in_tree}
use Rattle.copies.proofs.ContentsLaws.{fresh-length, fresh-bucket}
use Rattle.tree.specs.Tree.{Tree, InTree, tree_of}
use Rattle.tree.proofs.PathLaws.{same_or}
use Rattle.tree.proofs.PathFetch.{tree-root, tree-below}
use Rattle.good.specs.Good.{width, children_in, Good}
use Rattle.good.specs.Live.{Ascending}
use Rattle.good.specs.Heap.{Heap}
use Rattle.good.proofs.OnceLaws.{Once, none, more, once-test, dummy-shares}
use Rattle.good.proofs.PartsLaws.{other_width}
use Rattle.good.proofs.LeastLaws.{children-inner, children-leaf}

-- ---- nothing but dummies
dummies : (n : ℕ) {x : Record} → Memᴰ x (replicate n dummy) → x ≡ dummy
dummies zero m = absurd (Memᴰ.not-nil m)
dummies (suc n) m = ⊎_elim (λ e. e) (λ i. dummies n i) (Memᴰ.cases_cons m)

dummies-once : (n : ℕ) → Once (replicate n dummy)
dummies-once zero = none
dummies-once (suc n) = more (λ y m s. dummy-shares s) (dummies-once n)

dummies-least : (rule : Rule) (xs : List Record) → ((x : Record) → Memᴰ x xs → x ≡ dummy) → smallest rule xs ≡ dummy
dummies-least rule xs all = smallest-has (before rule) (λ x. x ≡ dummy) xs refl all

module _ (n r : ℕ) (l : r ≤ n) where
  split : replicate n dummy ≡ replicate r dummy ++ replicate (n - r) dummy
  split = let e : r + (n - r) ≡ n = omega arith in rw (replicate-append-replicate, e)

  take-dummies : take r (replicate n dummy) ≡ replicate r dummy
  take-dummies = rw split (take_at (replicate r dummy) _ r (length-replicate r dummy))

  drop-dummies : drop r (replicate n dummy) ≡ replicate (n - r) dummy
  drop-dummies = rw split (drop_at (replicate r dummy) _ r (length-replicate r dummy))

-- ---- the Tree
module _ (s : Sizes) where
  abbrev T : Tree
  T = tree_of s.z (replicate s.r dummy) dummy (fresh_tree s.h s.z)

  fresh_at : (b : Bucket) → InTree s.h b → T b ≡ record { least = dummy; slots = replicate (width s b) dummy }
  fresh_at b t =
      ⊎_elim (λ e. rw e (tree-root s.z (replicate s.r dummy) dummy (fresh_tree s.h s.z)))
      (λ n.
      let other : number b ≡ 1 → ⊥ = λ i. n (ap bucket i) in
      let low : 2 ≤ number b = omega (arith, t.some) in
      tree-below s.z (replicate s.r dummy) dummy (fresh_tree s.h s.z) b low
      ∙ fresh-bucket s.h s.z b (in_tree s.h s.z (number b) low t.most)
      ∙ rw (other_width s b low))
      (same_or b the_root)

  slots_at_lem : (b : Bucket) → InTree s.h b → (T b).slots ≡ replicate (width s b) dummy
  slots_at_lem b t = ap (λ (c : Contents). c.slots) (fresh_at b t)

  least_at : (b : Bucket) → InTree s.h b → (T b).least ≡ dummy
  least_at b t = ap (λ (c : Contents). c.least) (fresh_at b t)

  void : (b : Bucket) → InTree s.h b → (x : Record) → Memᴰ x (T b).slots → x ≡ dummy
  void b t x m = dummies (width s b) (rw (slots_at_lem b t) at m)

  child-void : (b : Bucket) → InTree s.h b → (x : Record) → Memᴰ x (children_in s.h T b) → x ≡ dummy
  child-void b t x m = elim (dec_le (leaves_of s.h) (number b)) [
    | yes l ↦ absurd (Memᴰ.not-nil (rw (children-leaf s.h T b l) at m))
    | no l ↦
        let inner : number b < leaves_of s.h = omega arith in
        ⊎_elim (λ e. e ∙ least_at (lower_child b) (record { some = omega (arith, t.some); most = omega arith }))
        (λ i. Memᴰ.eq_of_singleton i ∙ least_at (upper_child b) (record { some = omega arith; most = omega arith }))
        (Memᴰ.cases_cons (rw (children-inner s.h T b inner) at m))
  ]

  pub fresh-good : Good s (rule_for (leaves_of s.h) 0) (tree_of s.z (replicate s.r dummy) dummy (fresh_tree s.h s.z)) []
  unfolding every stamp_twice
  fresh-good =
      record {
        leaves = refl;
        proper = refl;
        stamps = refl;
        housed = record {
          sized = λ b t. ap length (slots_at_lem b t) ∙ length-replicate (width s b) dummy;
          stands = λ b t x m. inl (void b t x m);
          seated = λ x m. absurd (Memᴰ.not-nil m);
          once = λ b t. rw (slots_at_lem b t) (once-test (dummies-once (width s b)));
          apart = λ a b ta tb x y i j dx dy e.
              absurd (true≢false (sym is-dummy ∙ (rw (void a ta x i) at dx)));
        };
        leasts = λ b t. least_at b t ∙ sym (dummies-least _ _ (λ x m. ⊎_elim (void b t x) (child-void b t x)
            (Memᴰ.append_cases (T b).slots m)));
      }

  -- a fresh card's 64 places and a filled tree
  pub fresh-heap : in_range s ≡ true → Heap (parts_for s 0 0 dummy) (replicate 64 dummy) (fresh_tree s.h s.z) []
  fresh-heap ok =
      let few = (in-range s ok).roots.1 in
      record {
        sizes = ok;
        spent = omega arith;
        count = refl;
        most = omega arith;
        begun = omega arith;
        order = Ascending.none;
        places = length-replicate 64 dummy;
        past = rw (drop-dummies 64 s.r few) (each-every is_dummy _ (λ x m. ap is_dummy (dummies (64 - s.r) m) ∙ is-dummy));
        words = fresh-length s.h s.z;
        good = rw (take-dummies 64 s.r few) fresh-good;
      }
