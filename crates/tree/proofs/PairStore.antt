-- An Insert's two paths stored: where finish has laid the first path's buckets, then the second's, over the first of the
-- fetched words and the rack has stored them, card and tree hold the Tree with both paths laid back. Assumes nothing.
use Prim.Native.Nat.{ℕ, suc, ◌+◌, ◌*◌, ◌-◌, ◌≤◌, ◌<◌}
use mathlib.Core.List.Memᴰ
use mathlib.Core.List.{List, ◌++◌, map}
use mathlib.Core.Logic.{⊎_elim}
use mathlib.Core.Path.{◌≡◌, sym, ap, ◌∙◌}
use native.Mathlib.Omega.{arith}
use lib.ListN.{length, get_or, length-append}
use lib.Seq.{drop-drop, drop_at}
use Rattle.record.specs.declared.Leaf.{Leaf}
use Rattle.record.specs.declared.Bucket.{Bucket}
use Rattle.record.specs.declared.Record.{Record}
use Rattle.path.specs.Sizes.{leaves_of}
use Rattle.path.specs.Path.{bucket, number, root, path_bucket, up_from, path}
use Rattle.path.specs.Layout.{Contents, bucket_words, tree_words}
use Rattle.lists.specs.BucketList.{BucketList, pair_list}
use Rattle.path.proofs.PathLaws.{path-root, path-at}
use Rattle.lists.proofs.ListLaws.{length-path}
use Rattle.mend.specs.Mended.{path_words}
use Rattle.mend.proofs.PartLaws.{length-buckets}
use Rattle.copies.specs.Copy.{stored, AllStand}
use Rattle.copies.specs.BucketAt.{bucket_at}
use Rattle.copies.proofs.LayoutLaws.{in_tree}
use Rattle.rack.proofs.ListedLaws.{pair-distinct}
use Rattle.copies.proofs.ContentsLaws.{kept, each_stands, contents_at}
use Rattle.copies.proofs.StoreLaws.{stored-length}
use Rattle.tree.specs.Tree.{Tree, InTree, Alike, contents, tree_of}
use Rattle.tree.specs.Path.{OnPath, OffPath}
use Rattle.tree.proofs.PathLaws.{same_or, path-or}
use Rattle.tree.proofs.PathFetch.{levels-list, tree-root, tree-below}
use Rattle.tree.proofs.PathStore.{part-holds}
use Rattle.tree.proofs.HalvesLaws.{Halves, first-inside}
use Rattle.tree.proofs.PairFetch.{at_first, at_second, pair-wholes, pair-whole-count}

-- the words behind those of n buckets
contents-behind : (z n i : ℕ) (xs ys : List ℕ) → length xs ≡ n * bucket_words z → contents_at z (xs ++ ys) (n + i) ≡ contents_at z ys i
contents-behind z n i xs ys e =
    let k : (n + i) * bucket_words z ≡ n * bucket_words z + i * bucket_words z = omega arith in
    rw (k, ← drop-drop (i * bucket_words z) (n * bucket_words z) (xs ++ ys), drop_at xs ys (n * bucket_words z) e)

module _ (h z : ℕ) (first second : Leaf) (p : Halves h first second) (tree : List ℕ) (size : length tree ≡ tree_words h z)
    (f g : ℕ → Contents) (each_f : (d : ℕ) → 1 ≤ d → d < 1 + h → length (f d).slots ≡ z)
    (each_g : (d : ℕ) → 1 ≤ d → d < 1 + h → length (g d).slots ≡ z) (more : List ℕ) where
  abbrev l : BucketList
  l = pair_list h first second

  abbrev fs : List ℕ
  fs = path_words (map f (up_from 1 h))

  abbrev gs : List ℕ
  gs = path_words (map g (up_from 1 h)) ++ more

  abbrev words : List ℕ
  words = fs ++ gs

  abbrev after : List ℕ
  after = stored z l.whole words tree

  stand : AllStand z (length tree) l.whole
  stand = pair-wholes h z first second p tree size

  count : length l.whole ≡ 2 * h
  count = pair-whole-count h z first second p tree size

  enough : length l.whole * bucket_words z ≤ length words
  enough =
      let a = length-buckets z f 1 h each_f in
      let b = length-buckets z g 1 h each_g in
      rw (count, length-append fs gs, length-append (path_words (map g (up_from 1 h))) more, a, b) (omega arith)

  pub pair-stored-length : length
      (stored z (pair_list h first second).whole (path_words (map f (up_from 1 h)) ++ (path_words (map g (up_from 1 h)) ++ more)) tree) ≡ tree_words h z
  pair-stored-length = stored-length z l.whole words tree stand enough ∙ size

  each : (i : ℕ) → i < 2 * h → bucket_at z after (get_or l.whole i (bucket 0)) ≡ contents_at z words i
  each i m = each_stands z words tree (pair-distinct h first second p.low p.above p.most) stand enough i (rw count m)

  on-first : (d : ℕ) → 1 ≤ d → d ≤ h → bucket_at z after (path_bucket h first d) ≡ f d
  unfolding pair_list
  on-first d low high =
      let e : 1 + (d - 1) ≡ d = omega arith in
      let n = length-path h first 1 in
      let at = at_first (path h first 1) (path h second 1) (bucket 0) (d - 1) (omega arith)
      ∙ (rw e at (path-at h first 1 (d - 1) (bucket 0) (omega arith))) in
      ap (bucket_at z after) (sym at) ∙ each (d - 1) (omega arith) ∙ part-holds z f 1 h (d - 1) gs each_f (omega arith) ∙ ap f e

  on-second : (d : ℕ) → 1 ≤ d → d ≤ h → bucket_at z after (path_bucket h second d) ≡ g d
  unfolding pair_list
  on-second d low high =
      let e : 1 + (d - 1) ≡ d = omega arith in
      let n : length (path h first 1) ≡ h = length-path h first 1 ∙ omega arith in
      let at = at_second (path h first 1) (path h second 1) (bucket 0) h (d - 1) n
      ∙ (rw e at (path-at h second 1 (d - 1) (bucket 0) (omega arith))) in
      ap (bucket_at z after) (sym at) ∙ each (h + (d - 1)) (omega arith) ∙ contents-behind z h (d - 1) fs gs (length-buckets z f 1 h each_f)
      ∙ part-holds z g 1 h (d - 1) more each_g (omega arith) ∙ ap g e

  off-both : (b : Bucket) → 2 ≤ number b → number b < 2 * leaves_of h → OffPath h first b → OffPath h second b → bucket_at z after b ≡ bucket_at z tree b
  unfolding pair_list path
  off-both b low high off₁ off₂ =
      kept z words tree l.whole b stand enough (rw size (in_tree h z (number b) low high))
      (λ i. ⊎_elim
      (λ k. let r = levels-list (path_bucket h first) 1 (suc h - 1) k in off₁ (record { level = r.0; within = omega (arith, r.2); is = r.3 }))
      (λ k. let r = levels-list (path_bucket h second) 1 (suc h - 1) k in off₂ (record { level = r.0; within = omega (arith, r.2); is = r.3 }))
      (Memᴰ.append_cases (map (path_bucket h first) (up_from 1 (suc h - 1))) i))

  -- ---- any Tree that holds the same
  module _ (slots slots' : List Record) (least least' : Record) (U : Tree) (top : U root ≡ contents least' slots')
      (ons₁ : (d : ℕ) → 1 ≤ d → d ≤ h → U (path_bucket h first d) ≡ f d) (ons₂ : (d : ℕ) → 1 ≤ d → d ≤ h → U (path_bucket h second d) ≡ g d)
      (offs : (b : Bucket) → OffPath h first b → OffPath h second b → U b ≡ tree_of z slots least tree b) where
    level-some : (q : Leaf) → q.0 < leaves_of h → (b : Bucket) → (b ≡ root → ⊥) → (o : OnPath h q b) → 1 ≤ o.level
    level-some q inside b n o =
        let other : o.level ≡ 0 → ⊥ = λ i. n (o.is ∙ ap (path_bucket h q) i ∙ path-root h q inside) in
        omega arith

    below : (b : Bucket) → InTree h b → (b ≡ root → ⊥) → 2 ≤ number b → bucket_at z after b ≡ U b
    below b t n low =
        ⊎_elim
        (λ o. let i = level-some first (first-inside h first second p) b n o in
        ap (bucket_at z after) o.is ∙ on-first o.level i o.within ∙ sym (ap U o.is ∙ ons₁ o.level i o.within))
        (λ o₁. ⊎_elim
        (λ o. let i = level-some second p.most b n o in
        ap (bucket_at z after) o.is ∙ on-second o.level i o.within ∙ sym (ap U o.is ∙ ons₂ o.level i o.within))
        (λ o₂. off-both b low t.most o₁ o₂ ∙ sym (offs b o₁ o₂ ∙ tree-below z slots least tree b low)) (path-or h second b))
        (path-or h first b)

    pub pair-stored : Alike h (tree_of z slots' least'
        (stored z (pair_list h first second).whole (path_words (map f (up_from 1 h)) ++ (path_words (map g (up_from 1 h)) ++ more)) tree)) U
    pair-stored b t =
        ⊎_elim (λ e. rw e (tree-root z slots' least' after ∙ sym top))
        (λ n.
        let other : number b ≡ 1 → ⊥ = λ i. n (ap bucket i) in
        let low : 2 ≤ number b = omega (arith, t.some) in
        tree-below z slots' least' after b low ∙ below b t n low)
        (same_or b root)
