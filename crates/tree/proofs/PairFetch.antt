-- An Insert's two paths fetched: what card and fetched words show is the first path's way, the second path's slots, and the
-- least records beside both from level 2 on. Assumes nothing.
use Prim.Native.Nat.{ℕ, suc, ◌+◌, ◌*◌, ◌-◌, ◌≤◌, ◌<◌}
use mathlib.Core.List.Memᴰ
use mathlib.Core.List.{List, ◌++◌, map}
use mathlib.Core.Logic.{⊎_elim}
use mathlib.Core.Path.{◌≡◌, sym, ap, ◌∙◌}
use native.Mathlib.Omega.{arith}
use lib.ListN.{length, get_or, take, length-append, get_or-append}
use lib.Seq.{get_or-append-add}
use Rattle.record.specs.declared.Leaf.{Leaf}
use Rattle.record.specs.declared.Bucket.{Bucket}
use Rattle.record.specs.declared.Record.{Record}
use Rattle.path.specs.Path.{bucket, number, path_bucket, sibling_of, path}
use Rattle.path.specs.Layout.{Contents, tree_words}
use Rattle.lists.specs.BucketList.{BucketList, pair_list}
use Rattle.path.proofs.PathLaws.{path-root, path-in-tree, sibling-in-tree, path-at}
use Rattle.lists.proofs.ListLaws.{length-path, length-siblings}
use Rattle.gather.specs.Shown.{whole_at, sibling_at, slots_shown, way_shown}
use Rattle.copies.specs.Copy.{fetched, AllStand}
use Rattle.copies.specs.BucketAt.{bucket_at}
use Rattle.tree.specs.Tree.{Tree, tree_of, way_of, beside_of}
use Rattle.tree.proofs.ShownLaws.{below_of, Shows, way-shown, below-shown}
use Rattle.tree.proofs.FetchLaws.{whole-fetched, sibling-fetched}
use Rattle.tree.proofs.PathFetch.{path-stands, siblings-stand, tree-root, tree-below, map_at}
use Rattle.tree.proofs.HalvesLaws.{Halves, first-inside}

-- ---- two lists, one behind the other
module _ (xs ys : List Bucket) (d : Bucket) where
  pub at_first : (i : ℕ) → i < length xs → get_or (xs ++ ys) i d ≡ get_or xs i d
  at_first i l = get_or-append xs ys d i l

  pub at_second : (n i : ℕ) → length xs ≡ n → get_or (xs ++ ys) (n + i) d ≡ get_or ys i d
  at_second n i e = rw (← e) (get_or-append-add xs ys i d)

module _ (h z : ℕ) (first second : Leaf) (p : Halves h first second) (tree : List ℕ) (size : length tree ≡ tree_words h z) where
  pub pair-wholes : AllStand z (length tree) (pair_list h first second).whole
  unfolding pair_list
  pair-wholes =
      rw size (λ b m. ⊎_elim (path-stands h z first (first-inside h first second p) 1 (omega arith) b)
      (path-stands h z second p.most 1 (omega arith) b) (Memᴰ.append_cases (path h first 1) m))

  pub pair-leasts : AllStand z (length tree) (pair_list h first second).least
  unfolding pair_list
  pair-leasts =
      rw size (λ b m. ⊎_elim (siblings-stand h z first (first-inside h first second p) 2 (omega arith) b)
      (siblings-stand h z second p.most 2 (omega arith) b) (Memᴰ.append_cases (map sibling_of (path h first 2)) m))

  pub pair-whole-count : length (pair_list h first second).whole ≡ 2 * h
  unfolding pair_list
  pair-whole-count = rw (length-append, length-path h first 1, length-path h second 1) (omega arith)

  pub pair-least-count : length (pair_list h first second).least ≡ (h - 1) + (h - 1)
  unfolding pair_list
  pair-least-count = rw (length-append, length-siblings h first 2, length-siblings h second 2) (omega (arith, p.high))

-- ---- what is shown
module _ (h z r : ℕ) (first second : Leaf) (p : Halves h first second) (slots : List Record) (least : Record) (tree words : List ℕ)
    (size : length tree ≡ tree_words h z) where
  abbrev T : Tree
  T = tree_of z (take r slots) least tree

  abbrev l : BucketList
  l = pair_list h first second

  abbrev ws : List ℕ
  ws = fetched z tree l words

  whole : (i : ℕ) → i < 2 * h → whole_at z ws i ≡ bucket_at z tree (get_or l.whole i (bucket 0))
  whole i n =
      whole-fetched z tree l words (pair-wholes h z first second p tree size) (pair-leasts h z first second p tree size) i
      (rw (pair-whole-count h z first second p tree size) n)

  in-T : (b : Bucket) → 2 ≤ number b → bucket_at z tree b ≡ T b
  in-T b low = sym (tree-below z (take r slots) least tree b low)

  pub first-shows : Shows h z first (fetched z tree (pair_list h first second) words) 0 (tree_of z (take r slots) least tree)
  unfolding pair_list
  first-shows j m =
      let n = length-path h first 1 in
      let z' : 0 + j ≡ j = omega arith in
      let e : 1 + j ≡ suc j = omega arith in
      let at = at_first (path h first 1) (path h second 1) (bucket 0) j (omega arith) ∙ (rw e at (path-at h first 1 j (bucket 0) (omega arith))) in
      rw z' (whole j (omega arith) ∙ rw at (in-T _ (path-in-tree h first (first-inside h first second p) (suc j) (omega arith) m).0))

  pub second-shows : Shows h z second (fetched z tree (pair_list h first second) words) h (tree_of z (take r slots) least tree)
  unfolding pair_list
  second-shows j m =
      let n : length (path h first 1) ≡ h = length-path h first 1 ∙ omega arith in
      let e : 1 + j ≡ suc j = omega arith in
      let at = at_second (path h first 1) (path h second 1) (bucket 0) h j n ∙ (rw e at (path-at h second 1 j (bucket 0) (omega arith))) in
      whole (h + j) (omega arith) ∙ rw at (in-T _ (path-in-tree h second p.most (suc j) (omega arith) m).0)

  top : (T (path_bucket h first 0)).slots ≡ take r slots
  top =
      ap (λ (b : Bucket). (T b).slots) (path-root h first (first-inside h first second p))
      ∙ ap (λ (c : Contents). c.slots) (tree-root z (take r slots) least tree)

  pub pair-way : way_shown h z r slots (fetched z tree (pair_list h first second) words) 0 ≡ way_of h first (tree_of z (take r slots) least tree)
  pair-way = way-shown h z r first slots ws 0 T first-shows top

  pub pair-slots : slots_shown z (fetched z tree (pair_list h first second) words) h h ≡ below_of h second (tree_of z (take r slots) least tree) h
  pair-slots = below-shown h z second ws h T second-shows

  -- ---- siblings
  sibling : (i : ℕ) → i < (h - 1) + (h - 1)
      → sibling_at z ws (2 * h) i ≡ (bucket_at z tree (get_or l.least i (bucket 0))).least
  sibling i n =
      rw (pair-whole-count h z first second p tree size) at
      (sibling-fetched z tree l words (pair-wholes h z first second p tree size) (pair-leasts h z first second p tree size) i
      (rw (pair-least-count h z first second p tree size) n))

  -- place i of a path's siblings from level 2 on
  sibling-place : (q : Leaf) (d : ℕ) → 2 ≤ d → d ≤ h → get_or (map sibling_of (path h q 2)) (d - 2) (bucket 0) ≡ sibling_of (path_bucket h q d)
  sibling-place q d low high =
      let n = length-path h q 2 in
      let e : 2 + (d - 2) ≡ d = omega arith in
      map_at sibling_of (path h q 2) (d - 2) (bucket 0) (bucket 0) (omega arith)
      ∙ ap sibling_of (rw e at (path-at h q 2 (d - 2) (bucket 0) (omega arith)))

  pub first-beside : (d : ℕ) → 2 ≤ d → d ≤ h
      → sibling_at z (fetched z tree (pair_list h first second) words) (2 * h) (d - 2) ≡ beside_of h first (tree_of z (take r slots) least tree) d
  unfolding pair_list
  first-beside d low high =
      let n = length-siblings h first 2 in
      let at = at_first (map sibling_of (path h first 2)) (map sibling_of (path h second 2)) (bucket 0) (d - 2) (omega arith)
      ∙ sibling-place first d low high in
      let t = (sibling-in-tree h first (first-inside h first second p) d (omega arith) high).0 in
      sibling (d - 2) (omega arith) ∙ ap (λ (b : Bucket). (bucket_at z tree b).least) at
      ∙ ap (λ (c : Contents). c.least) (in-T _ t)

  pub second-beside : (d : ℕ) → 2 ≤ d → d ≤ h
      → sibling_at z (fetched z tree (pair_list h first second) words) (2 * h) (h - 1 + (d - 2))
      ≡ beside_of h second (tree_of z (take r slots) least tree) d
  unfolding pair_list
  second-beside d low high =
      let n : length (map sibling_of (path h first 2)) ≡ h - 1 = length-siblings h first 2 ∙ omega arith in
      let at = at_second (map sibling_of (path h first 2)) (map sibling_of (path h second 2)) (bucket 0) (h - 1) (d - 2) n
      ∙ sibling-place second d low high in
      let t = (sibling-in-tree h second p.most d (omega arith) high).0 in
      sibling (h - 1 + (d - 2)) (omega arith) ∙ ap (λ (b : Bucket). (bucket_at z tree b).least) at
      ∙ ap (λ (c : Contents). c.least) (in-T _ t)
