-- What a request meets on a good heap: nothing Damaged, the least of all live events for ExtractMin, the event that Delete
-- names exactly where it is live, and a slot for Insert's record where begin did not refuse. Assumes nothing.
use Prim.Native.Nat.{ℕ, zero, suc, ◌*◌, ◌≤◌, ◌<◌}
use mathlib.Core.Bool.{Bool, true, false, not, true≢false}
use mathlib.Core.List.{List, [], ◌∷◌, ◌++◌, Memᴰ}
use mathlib.Core.Logic.{inl, inr}
use mathlib.Core.Path.{◌≡◌, refl, sym, ◌∙◌}
use mathlib.Mathlib.Data.Bool.Basic.{dichotomy}
use native.Mathlib.Omega.{arith}
use lib.ListN.{length, get_or, take}
use borrow.Author.Tests.{ltb-true}
use Rattle.record.specs.declared.Leaf.{Leaf}
use Rattle.record.specs.declared.Record.{Record}
use Rattle.record.specs.declared.Stamp.{Stamp}
use Rattle.record.specs.Standing.{dummy, is_dummy}
use Rattle.record.specs.Order.{smallest}
use Rattle.record.specs.Many.{every}
use Rattle.path.specs.declared.sizes.Sizes.{Sizes}
use Rattle.path.specs.Sizes.{leaves_of}
use Rattle.lists.specs.BucketList.{path_list, pair_list}
use Rattle.path.proofs.SizesLaws.{in-range}
use Rattle.root.specs.Root.{root_full}
use Rattle.way.specs.Evict.{seek}
use Rattle.clearing.specs.Removal.{named, found}
use Rattle.gather.specs.Shown.{way_shown}
use Rattle.clearing.proofs.RemovalLaws.{member-found, found-passes}
use Rattle.parts.specs.declared.Parts.{Parts}
use Rattle.parts.specs.Parts.{rule_of}
use Rattle.sound.specs.Fetched.{path_fetched, first_fetched, second_fetched}
use Rattle.damage.specs.Damaged.{path_damaged, pair_damaged}
use Rattle.copies.specs.Copy.{fetched}
use Rattle.tree.specs.Tree.{Tree, way_of, tree_of}
use Rattle.tree.proofs.PathFetch.{path-way}
use Rattle.tree.proofs.HalvesLaws.{Halves}
use Rattle.good.specs.Heap.{Heap}
use Rattle.good.proofs.FitLaws.{at_place}
use Rattle.good.proofs.LowLaws.{live-label, root-smallest}
use Rattle.good.proofs.PickLaws.{Picks, named-is, named-picks}
use Rattle.good.proofs.WorkLaws.{live-found, found-live}
use Rattle.good.proofs.RemovalLaws.{path-undamaged}
use Rattle.good.proofs.InsertionLaws.{pair-undamaged}
use Rattle.good.proofs.FewLaws.{root-least, least-live}

-- ---- a dummy among the first r places
seek-first : (r : ℕ) (xs ys : List Record) → every (λ x. not (is_dummy x)) (take r xs) ≡ false → r ≤ length xs → seek is_dummy r (take r xs ++ ys) < r
unfolding every seek
seek-first zero xs ys e l = absurd (true≢false e)
seek-first (suc r) [] ys e l = absurd (omega arith)
seek-first (suc r) (x ∷ xs) ys e l = elim (dichotomy (is_dummy x)) [
  | inl f ↦ let k = seek-first r xs ys (rw f at e) (omega arith) in rw f (omega arith)
  | inr t ↦ rw t (omega arith)
]

-- "every root slot real", denied: Insert's record finds a slot in the root
pub root-room : (h z r : ℕ) (root : List Record) (ws : List ℕ) (i : ℕ) → root_full r root ≡ false → r ≤ length root
    → seek is_dummy r (way_shown h z r root ws i) < r
unfolding root_full way_shown
root-room h z r root ws i e l = seek-first r root _ e l

module _ (p : Parts) (root : List Record) (tree words : List ℕ) (live : List Record)
    (H : Heap p root tree live) where
  abbrev s : Sizes
  s = p.sizes

  abbrev t : ℕ
  t = p.t

  abbrev c : ℕ
  c = p.c

  abbrev least : Record
  least = p.least

  abbrev T : Tree
  T = tree_of s.z (take s.r root) least tree

  pub heap-full : s.r ≤ length root
  heap-full = omega (arith, H.places, (in-range s H.sizes).roots.1)

  -- FindMin and ExtractMin answer the least of all live events
  pub heap-least : least ≡ smallest (rule_of p) live
  heap-least = sym (root-least p root tree live H) ∙ root-smallest s (rule_of p) T live H.good

  pub least-inside : 1 ≤ c → least.label.0 < leaves_of s.h
  least-inside l = live-label s (rule_of p) T live H.good least (least-live p root tree live H l)

  module _ (q : Leaf) (inside : q.0 < leaves_of s.h) where
    abbrev way : List Record
    way = way_shown s.h s.z s.r root (fetched s.z tree (path_list s.h q) words) 0

    way-is : way ≡ way_of s.h q T
    way-is = path-way s.h s.z s.r q inside root least tree words H.words

    pub heap-path :
        path_damaged s.h s.r (rule_of p) least (path_fetched s.h s.z q (fetched s.z tree (path_list s.h q) words)) way ≡ false
    heap-path =
        path-undamaged s q inside root heap-full least tree words H.words live (rule_of p) H.good (in-range s H.sizes).tree.height.0

    module _ (stamp : Stamp) where
      -- on the way there is a record with this label and stamp exactly where there is one among the live events
      pub found-as-live : found (named q stamp) way ≡ found (named q stamp) live
      unfolding found
      found-as-live = elim (dichotomy (found (named q stamp) way)) [
        | inr t' ↦
            let there = rw way-is at t' in
            let m = found-live s q inside T live (rule_of p) H.good (named q stamp) stamp (named-picks q stamp) there in
            t' ∙ sym (member-found (named q stamp) m (found-passes (named q stamp) (way_of s.h q T) dummy there))
        | inl f' ↦ elim (dichotomy (found (named q stamp) live)) [
          | inl f ↦ f' ∙ sym f
          | inr t'' ↦
              let x = get_or live (seek (named q stamp) (length live) live) dummy in
              let m : Memᴰ x live = at_place live _ (ltb-true _ _ t'') in
              let passes = found-passes (named q stamp) live dummy t'' in
              let n = named-is q stamp x passes in
              absurd (true≢false (sym (rw (← way-is) at
              (live-found s q inside T live (rule_of p) H.good (named q stamp) stamp (named-picks q stamp) x m
              n.1 passes)) ∙ f'))
        ]
      ]

  -- ExtractMin's record is there, by any test that it passes
  pub extract-found : (l : 1 ≤ c) (f : Record → Bool) → Picks f least.stamp → f least ≡ true
      → found f (way_shown s.h s.z s.r root (fetched s.z tree (path_list s.h least.label) words) 0) ≡ true
  extract-found l f picks own =
      rw (way-is least.label (least-inside l))
      (live-found s least.label (least-inside l) T live (rule_of p) H.good f least.stamp picks least
      (least-live p root tree live H l) refl own)

  module _ (first second : Leaf) (halves : Halves s.h first second) where
    pub heap-pair :
        pair_damaged s.h s.r (rule_of p) least (first_fetched s.h s.z first (fetched s.z tree (pair_list s.h first second) words))
        (second_fetched s.h s.z second (fetched s.z tree (pair_list s.h first second) words))
        (way_shown (2 * s.h) s.z s.r root (fetched s.z tree (pair_list s.h first second) words) 0) ≡ false
    heap-pair = pair-undamaged s first second halves root heap-full least tree words H.words live (rule_of p) H.good
