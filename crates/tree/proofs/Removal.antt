-- A removal on words is a removal on the Tree: ExtractMin's and Delete's work, done by the definitions that finish cites on
-- what card and fetched words show, then stored by the rack, leaves the Tree that the same work on the Tree's own way leaves.
-- Assumes nothing.
use Prim.Native.Nat.{ℕ, ◌+◌, ◌*◌, ◌≤◌, ◌<◌}
use mathlib.Core.Bool.{Bool}
use mathlib.Core.List.{List, ◌++◌}
use mathlib.Core.Path.{◌≡◌, sym, ap, ◌∙◌}
use native.Mathlib.Nat.{mul-le-mul_left}
use native.Mathlib.Omega.{arith}
use lib.ListN.{length, take, drop}
use lib.Seq.{take_at, length-take-le}
use Rattle.record.specs.declared.Leaf.{Leaf}
use Rattle.record.specs.declared.Record.{Record}
use Rattle.record.specs.declared.Rule.{Rule}
use Rattle.path.specs.declared.sizes.Sizes.{Sizes}
use Rattle.path.specs.Sizes.{leaves_of}
use Rattle.path.specs.Layout.{tree_words}
use Rattle.lists.specs.BucketList.{path_list}
use Rattle.lists.proofs.ListLaws.{length-path}
use Rattle.least.specs.Least.{slots_at, root_slots, mended_at}
use Rattle.way.proofs.EvictLaws.{length-evict}
use Rattle.least.proofs.LeastLaws.{length-slots}
use Rattle.clearing.specs.Removal.{removed}
use Rattle.gather.specs.Shown.{siblings_shown, way_shown}
use Rattle.clearing.proofs.RemovalLaws.{removed-length}
use Rattle.gather.proofs.ShownLaws.{way-length}
use Rattle.mend.specs.Mended.{path_words, beside_at}
use Rattle.work.specs.PathWork.{evicted, path_buckets, least_after}
use Rattle.work.specs.RemovalWork.{removal_after, removal_root, removal_buckets, removal_least, rooted}
use Rattle.work.proofs.BesideLaws.{kids-same, mended-same}
use Rattle.copies.specs.Copy.{fetched, stored}
use Rattle.tree.specs.Tree.{Tree, Alike, way_of, beside_of, tree_of}
use Rattle.tree.specs.Work.{worked, taken}
use Rattle.tree.proofs.FetchLaws.{fetched-long}
use Rattle.tree.proofs.PathFetch.{path-wholes, path-leasts, path-way, path-beside}
use Rattle.tree.proofs.PathStore.{path-stored, path-stored-length}

-- ---- lengths after an eviction
module _ (s : Sizes) (q : Leaf) (w : List Record) (long : length w ≡ s.r + s.z * s.h) where
  pub evicted-length : length (evicted s q w) ≡ s.r + s.z * s.h
  evicted-length = length-evict s.h s.z s.r q w ∙ long

  pub slots-after-length : (d : ℕ) → 1 ≤ d → d ≤ s.h → length (slots_at s.r s.z (evicted s q w) d) ≡ s.z
  slots-after-length d l m =
      length-slots s.r s.z _ d l (omega (arith, evicted-length, mul-le-mul_left {m = d} {n = s.h} s.z m))

  pub root-after-length : length (root_slots s.r (evicted s q w)) ≡ s.r
  root-after-length = length-take-le s.r _ (omega (arith, evicted-length))

module _ (s : Sizes) (q : Leaf) (inside : q.0 < leaves_of s.h) (root : List Record) (full : s.r ≤ length root) (least : Record)
    (tree words : List ℕ) (size : length tree ≡ tree_words s.h s.z) where
  abbrev T : Tree
  T = tree_of s.z (take s.r root) least tree

  abbrev ws : List ℕ
  ws = fetched s.z tree (path_list s.h q) words

  abbrev sibs : List Record
  sibs = siblings_shown s.z ws s.h 0 s.h

  abbrev way : List Record
  way = way_shown s.h s.z s.r root ws 0

  way-is : way ≡ way_of s.h q T
  way-is = path-way s.h s.z s.r q inside root least tree words size

  beside-is : (d : ℕ) → 1 ≤ d → d ≤ s.h → beside_at sibs d ≡ beside_of s.h q T d
  beside-is = path-beside s.h s.z s.r q inside root least tree words size

  -- the fetched words are those of all listed buckets
  given : 4 * ((0 + s.h) * (s.z + 1)) ≤ length ws
  unfolding path_list
  given =
      let n : length (path_list s.h q).whole ≡ s.h = length-path s.h q 1 ∙ omega arith in
      let all = fetched-long s.z tree (path_list s.h q) words (path-wholes s.h s.z q inside tree size)
      (path-leasts s.h s.z q inside tree size) in
      let some = rw n at all in
      omega (arith, some)

  pub tree-way-length : length (way_of s.h q (tree_of s.z (take s.r root) least tree)) ≡ s.r + s.z * s.h
  tree-way-length = ap length (sym way-is) ∙ way-length s.h s.z s.r root ws 0 full given

  module _ (f : Record → Bool) where
    pub removal-root : removal_root s q f way ≡ removal_root s q f (way_of s.h q T)
    removal-root = rw way-is

    gone : List Record
    gone = removed f (way_of s.h q T)

    gone-length : length gone ≡ s.r + s.z * s.h
    unfolding gone
    gone-length = removed-length f _ ∙ tree-way-length

    module _ (rule : Rule) where
      pub removal-buckets :
          removal_buckets rule s q f sibs way ≡ path_buckets rule s q (beside_of s.h q T) (removal_after s q f (way_of s.h q T))
      unfolding path_buckets
      removal-buckets = rw way-is (mended-same rule s.h q (slots_at s.r s.z (removal_after s q f (way_of s.h q T))) (beside_at sibs)
          (beside_of s.h q T) 1 beside-is (omega arith))

      pub removal-least :
          removal_least rule s q f sibs way ≡ least_after rule s q (beside_of s.h q T) (removal_after s q f (way_of s.h q T))
      unfolding least_after
      removal-least = rw (
        way-is,
        kids-same rule s.h q (slots_at s.r s.z (removal_after s q f (way_of s.h q T))) (beside_at sibs)
            (beside_of s.h q T) 1 beside-is s.h (omega arith),
      )

      -- the words that finish leaves, stored: behind the path's buckets any words may stand
      pub removal-stored : (more : List ℕ)
          → Alike s.h
          (tree_of s.z (take s.r (rooted s.r (removal_root s q f way) root)) (removal_least rule s q f sibs way)
          (stored s.z (path_list s.h q).whole (path_words (removal_buckets rule s q f sibs way) ++ more) tree))
          (taken rule s q f T)
      unfolding worked path_buckets gone
      removal-stored more =
          let n = root-after-length s q gone gone-length in
          rw (removal-buckets, removal-root, removal-least, take_at _ (drop s.r root) s.r n)
          (path-stored s.h s.z q inside tree size (mended_at rule s.h q (slots_at s.r s.z (evicted s q gone)) (beside_of s.h q T))
          (λ d l m. slots-after-length s q gone gone-length d l (omega arith)) more _ _ _ _)

      pub removal-stored-length : (more : List ℕ)
          → length (stored s.z (path_list s.h q).whole (path_words (removal_buckets rule s q f sibs way) ++ more) tree) ≡ tree_words s.h s.z
      unfolding path_buckets gone
      removal-stored-length more =
          rw removal-buckets
          (path-stored-length s.h s.z q inside tree size (mended_at rule s.h q (slots_at s.r s.z (evicted s q gone)) (beside_of s.h q T))
          (λ d l m. slots-after-length s q gone gone-length d l (omega arith)) more)
