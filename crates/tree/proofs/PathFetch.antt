-- One path fetched: what card and fetched words show is the Tree's way and the least records beside it. Assumes nothing.
use Prim.Native.Nat.{ℕ, zero, suc, ◌+◌, ◌-◌, ◌≤◌, ◌<◌}
use mathlib.Core.List.Memᴰ
use mathlib.Core.List.{List, [], ◌∷◌, map, map-map, Memᴰ}
use mathlib.Core.Path.{◌≡◌, refl, sym, ap, ◌∙◌}
use native.Mathlib.Omega.{arith}
use lib.ListN.{length, get_or, take}
use Rattle.record.specs.declared.Leaf.{Leaf}
use Rattle.record.specs.declared.Bucket.{Bucket}
use Rattle.record.specs.declared.Record.{Record}
use Rattle.path.specs.Sizes.{leaves_of}
use Rattle.path.specs.Path.{bucket, number, root, path_bucket, sibling_of, up_from, path}
use Rattle.path.specs.Layout.{Contents, tree_words}
use Rattle.lists.specs.BucketList.{path_list}
use Rattle.path.proofs.PathLaws.{path-root, path-in-tree, sibling-in-tree, path-at}
use Rattle.lists.proofs.ListLaws.{length-path, length-siblings}
use Rattle.gather.specs.Shown.{sibling_at, siblings_shown, way_shown}
use Rattle.gather.proofs.ShownLaws.{siblings-at}
use Rattle.mend.specs.Mended.{beside_at}
use Rattle.copies.specs.Copy.{fetched, AllStand}
use Rattle.copies.specs.BucketAt.{bucket_at}
use Rattle.copies.proofs.LayoutLaws.{in_tree}
use Rattle.tree.specs.Tree.{Tree, contents, tree_of, way_of, beside_of}
use Rattle.tree.proofs.PathLaws.{put-here, put_other}
use Rattle.tree.proofs.ShownLaws.{Shows, way-shown}
use Rattle.tree.proofs.FetchLaws.{whole-fetched, sibling-fetched}

-- ---- listed levels
pub levels-list : {A : Type 0} (g : ℕ → A) (a n : ℕ) {b : A} → Memᴰ b (map g (up_from a n)) → (d : ℕ) × (a ≤ d) × (d < a + n) × (b ≡ g d)
unfolding up_from
levels-list g a zero m = absurd (Memᴰ.not-nil m)
levels-list g a (suc n) (Memᴰ.head e) = (a, omega arith, omega arith, e)
levels-list g a (suc n) (Memᴰ.tail m) =
    let r = levels-list g (suc a) n m in
    (r.0, omega (arith, r.1), omega (arith, r.2), r.3)

pub map_at : {A B : Type 0} (f : A → B) (l : List A) (i : ℕ) (d : A) (e : B) → i < length l → get_or (map f l) i e ≡ f (get_or l i d)
map_at f [] i d e n = absurd (omega arith)
map_at f (x ∷ xs) zero d e n = refl
map_at f (x ∷ xs) (suc i) d e n = map_at f xs i d e (omega arith)

-- the path's buckets from level d on, and their siblings, stand in the tree
module _ (h z : ℕ) (q : Leaf) (inside : q.0 < leaves_of h) (d : ℕ) (below : 1 ≤ d) where
  pub path-stands : AllStand z (tree_words h z) (path h q d)
  unfolding path
  path-stands b m =
      let r = levels-list (path_bucket h q) d (suc h - d) m in
      let t = path-in-tree h q inside r.0 (omega (arith, r.1)) (omega (arith, r.1, r.2)) in
      rw r.3 (in_tree h z _ t.0 t.1)

  pub siblings-stand : AllStand z (tree_words h z) (map sibling_of (path h q d))
  unfolding path
  siblings-stand b m =
      let r = levels-list sibling_of' d (suc h - d) (rw (map-map sibling_of (path_bucket h q) (up_from d (suc h - d))) at m) in
      let t = sibling-in-tree h q inside r.0 (omega (arith, r.1)) (omega (arith, r.1, r.2)) in
      rw r.3 (in_tree h z _ t.0 t.1)
    where
      sibling_of' : ℕ → Bucket
      sibling_of' d = sibling_of (path_bucket h q d)

-- ---- below the root the Tree holds what the tree's words say
module _ (z : ℕ) (slots : List Record) (least : Record) (tree : List ℕ) where
  pub tree-root : tree_of z slots least tree root ≡ contents least slots
  tree-root = put-here root (contents least slots) (bucket_at z tree)

  pub tree-below : (b : Bucket) → 2 ≤ number b → tree_of z slots least tree b ≡ bucket_at z tree b
  tree-below b l = put_other root (contents least slots) (bucket_at z tree) b (λ e. omega (arith, ap number e))

-- ---- one path
module _ (h z : ℕ) (q : Leaf) (inside : q.0 < leaves_of h) (tree : List ℕ) (size : length tree ≡ tree_words h z) where
  pub path-wholes : AllStand z (length tree) (path_list h q).whole
  unfolding path_list
  path-wholes = rw size (path-stands h z q inside 1 (omega arith))

  pub path-leasts : AllStand z (length tree) (path_list h q).least
  unfolding path_list
  path-leasts = rw size (siblings-stand h z q inside 1 (omega arith))

module _ (h z r : ℕ) (q : Leaf) (inside : q.0 < leaves_of h) (slots : List Record) (least : Record) (tree words : List ℕ)
    (size : length tree ≡ tree_words h z) where
  abbrev T : Tree
  T = tree_of z (take r slots) least tree

  abbrev ws : List ℕ
  ws = fetched z tree (path_list h q) words

  wholes : AllStand z (length tree) (path_list h q).whole
  wholes = path-wholes h z q inside tree size

  leasts : AllStand z (length tree) (path_list h q).least
  leasts = path-leasts h z q inside tree size

  pub path-shows : Shows h z q (fetched z tree (path_list h q) words) 0 (tree_of z (take r slots) least tree)
  unfolding path_list
  path-shows j l =
      let n = length-path h q 1 in
      let z' : 0 + j ≡ j = omega arith in
      let e : 1 + j ≡ suc j = omega arith in
      let at = rw e at (path-at h q 1 j (bucket 0) (omega arith)) in
      rw (z', whole-fetched z tree (path_list h q) words wholes leasts j (omega arith), at)
      (sym (tree-below z (take r slots) least tree _ (path-in-tree h q inside (suc j) (omega arith) l).0))

  top : (T (path_bucket h q 0)).slots ≡ take r slots
  top = ap (λ (b : Bucket). (T b).slots) (path-root h q inside) ∙ ap (λ (c : Contents). c.slots) (tree-root z (take r slots) least tree)

  pub path-way : way_shown h z r slots (fetched z tree (path_list h q) words) 0 ≡ way_of h q (tree_of z (take r slots) least tree)
  path-way = way-shown h z r q slots ws 0 T path-shows top

  pub path-sibling : (j : ℕ) → j < h
      → sibling_at z (fetched z tree (path_list h q) words) h j ≡ beside_of h q (tree_of z (take r slots) least tree) (suc j)
  unfolding path_list
  path-sibling j l =
      let n : length (path h q 1) ≡ h = length-path h q 1 ∙ omega arith in
      let m = length-siblings h q 1 in
      let e : 1 + j ≡ suc j = omega arith in
      let at = rw e at (path-at h q 1 j (bucket 0) (omega arith)) in
      let below = (sibling-in-tree h q inside (suc j) (omega arith) l).0 in
      (rw n at (sibling-fetched z tree (path_list h q) words wholes leasts j (omega arith)))
      ∙ rw (map_at sibling_of (path h q 1) j (bucket 0) (bucket 0) (omega arith), at)
      (sym (ap (λ (c : Contents). c.least) (tree-below z (take r slots) least tree _ below)))

  -- as the work on a path is given them
  pub path-beside : (d : ℕ) → 1 ≤ d → d ≤ h
      → beside_at (siblings_shown z (fetched z tree (path_list h q) words) h 0 h) d ≡ beside_of h q (tree_of z (take r slots) least tree) d
  path-beside d l m =
      let e : 0 + (d - 1) ≡ d - 1 = omega arith in
      let f : suc (d - 1) ≡ d = omega arith in
      siblings-at z ws h 0 h (d - 1) _ (omega arith) ∙ rw e (rw f at (path-sibling (d - 1) (omega arith)))
