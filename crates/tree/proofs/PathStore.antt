-- One path stored: where finish has laid the path's buckets over the first of the fetched words and the rack has stored
-- them, card and tree hold the Tree with the way laid back. Assumes nothing.
use Prim.Native.Nat.{ℕ, suc, ◌+◌, ◌*◌, ◌-◌, ◌≤◌, ◌<◌}
use mathlib.Core.List.{List, ◌∷◌, ◌++◌, map}
use mathlib.Core.Logic.{⊎_elim}
use mathlib.Core.Path.{◌≡◌, sym, ap, ◌∙◌}
use native.Mathlib.Omega.{arith}
use lib.ListN.{length, length-append}
use Rattle.record.specs.declared.Leaf.{Leaf}
use Rattle.record.specs.declared.Bucket.{Bucket}
use Rattle.record.specs.declared.Record.{Record}
use Rattle.record.specs.Words.{records}
use Rattle.record.proofs.WordsLaws.{records-words}
use Rattle.path.specs.Sizes.{leaves_of}
use Rattle.path.specs.Path.{bucket, number, root, path_bucket, up_from, path}
use Rattle.path.specs.Layout.{Contents, bucket_words, tree_words}
use Rattle.lists.specs.BucketList.{path_list}
use Rattle.path.proofs.PathLaws.{path-root, path-at}
use Rattle.lists.proofs.ListLaws.{length-path}
use Rattle.mend.specs.Mended.{path_words}
use Rattle.mend.proofs.PartLaws.{length-buckets, bucket-part}
use Rattle.copies.specs.Copy.{stored, AllStand}
use Rattle.copies.specs.BucketAt.{contents_of, bucket_at}
use Rattle.copies.proofs.LayoutLaws.{in_tree}
use Rattle.rack.proofs.ListedLaws.{path-distinct}
use Rattle.copies.proofs.ContentsLaws.{kept, each_stands, contents_at}
use Rattle.copies.proofs.StoreLaws.{stored-length}
use Rattle.tree.specs.Tree.{Tree, Alike, contents, laid_back, tree_of}
use Rattle.tree.specs.Path.{OnPath, OffPath}
use Rattle.tree.proofs.PathLaws.{same_or, path-or, laid_root, laid_on, laid-off}
use Rattle.tree.proofs.PathFetch.{levels-list, path-wholes, tree-root, tree-below}

-- what the words of some buckets hold for one of them
pub part-holds : (z : ℕ) (f : ℕ → Contents) (a n i : ℕ) (more : List ℕ) → ((d : ℕ) → a ≤ d → d < a + n → length (f d).slots ≡ z) → i < n
    → contents_at z (path_words (map f (up_from a n)) ++ more) i ≡ f (a + i)
part-holds z f a n i more each l =
    ap (λ (w : List ℕ). contents_of (records w)) (bucket-part z f a n i more each l)
    ∙ ap contents_of (records-words ((f (a + i)).least ∷ (f (a + i)).slots))

module _ (h z : ℕ) (q : Leaf) (inside : q.0 < leaves_of h) (tree : List ℕ) (size : length tree ≡ tree_words h z) (f : ℕ → Contents)
    (each : (d : ℕ) → 1 ≤ d → d < 1 + h → length (f d).slots ≡ z) (more : List ℕ) where
  abbrev words : List ℕ
  words = path_words (map f (up_from 1 h)) ++ more

  abbrev after : List ℕ
  after = stored z (path_list h q).whole words tree

  stand : AllStand z (length tree) (path_list h q).whole
  stand = path-wholes h z q inside tree size

  count : length (path_list h q).whole ≡ h
  unfolding path_list
  count = length-path h q 1 ∙ omega arith

  enough : length (path_list h q).whole * bucket_words z ≤ length words
  enough = rw (count, length-append, length-buckets z f 1 h each) (omega arith)

  pub path-stored-length : length (stored z (path_list h q).whole (path_words (map f (up_from 1 h)) ++ more) tree) ≡ tree_words h z
  path-stored-length = stored-length z (path_list h q).whole words tree stand enough ∙ size

  on-path : (d : ℕ) → 1 ≤ d → d ≤ h → bucket_at z after (path_bucket h q d) ≡ f d
  unfolding path_list
  on-path d l m =
      let e : 1 + (d - 1) ≡ d = omega arith in
      let at = rw e at (path-at h q 1 (d - 1) (bucket 0) (omega arith)) in
      let stands = each_stands z words tree (path-distinct h q inside) stand enough (d - 1) (omega (arith, count)) in
      (rw at at stands) ∙ part-holds z f 1 h (d - 1) more each (omega arith) ∙ ap f e

  off-path : (b : Bucket) → 2 ≤ number b → number b < 2 * leaves_of h → OffPath h q b → bucket_at z after b ≡ bucket_at z tree b
  unfolding path_list path
  off-path b l m off =
      kept z words tree (path_list h q).whole b stand enough (rw size (in_tree h z (number b) l m))
      (λ i. let r = levels-list (path_bucket h q) 1 (suc h - 1) i in off (record { level = r.0; within = omega (arith, r.2); is = r.3 }))

  module _ (slots slots' : List Record) (least least' : Record) where
    abbrev T : Tree
    T = tree_of z slots least tree

    pub path-stored :
        Alike h (tree_of z slots' least' (stored z (path_list h q).whole (path_words (map f (up_from 1 h)) ++ more) tree))
        (laid_back h q (map f (up_from 1 h)) (contents least' slots') (tree_of z slots least tree))
    path-stored b t =
        ⊎_elim (λ e. rw e (tree-root z slots' least' after ∙ sym (laid_root h q inside f (contents least' slots') T)))
        (λ n. let other : number b ≡ 1 → ⊥ = λ i. n (ap bucket i) in
        let low : 2 ≤ number b = omega (arith, t.some) in
        tree-below z slots' least' after b low ∙ ⊎_elim
        (λ o. on n o) (λ o. off-path b low t.most o ∙ sym (tree-below z slots least tree b low)
        ∙ sym (laid-off h q inside f (contents least' slots') T b o))
        (path-or h q b))
        (same_or b root)
      where
        on : (b ≡ root → ⊥) → OnPath h q b → bucket_at z after b ≡ laid_back h q (map f (up_from 1 h)) (contents least' slots') T b
        on n o =
            let other : o.level ≡ 0 → ⊥ = λ i. n (o.is ∙ ap (path_bucket h q) i ∙ path-root h q inside) in
            let l : 1 ≤ o.level = omega arith in
            rw o.is (on-path o.level l o.within ∙ sym (laid_on h q inside f (contents least' slots') T o.level l o.within))
