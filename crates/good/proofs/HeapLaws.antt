-- Card and rack from the start on: a fresh card and a filled tree are a good heap, and ExtractMin, Delete and Insert, with
-- what finish leaves stored by the rack, keep it so. Nothing that finish then asks of it is Damaged. Assumes nothing.
use Prim.Native.Nat.{ℕ, suc, ◌-◌, ◌≤◌, ◌<◌}
use mathlib.Core.Bool.{Bool, true, false}
use mathlib.Core.List.{List, [], ◌∷◌, ◌++◌, Memᴰ}
use mathlib.Core.Path.{◌≡◌, refl, ap, ◌∙◌}
use native.Mathlib.Omega.{arith}
use lib.ListN.{length, take, drop, length-append, length-drop}
use lib.Seq.{drop_at}
use Rattle.record.specs.declared.Leaf.{Leaf}
use Rattle.record.specs.declared.Stamp.{Stamp}
use Rattle.record.specs.declared.Record.{Record}
use Rattle.record.specs.Standing.{is_dummy, is_proper}
use Rattle.record.proofs.StandingLaws.{allows-later}
use Rattle.path.specs.declared.sizes.Sizes.{Sizes}
use Rattle.path.specs.Sizes.{leaves_of}
use Rattle.lists.specs.BucketList.{path_list, pair_list}
use Rattle.path.proofs.SizesLaws.{in-range}
use Rattle.way.specs.Evict.{seek}
use Rattle.clearing.specs.Removal.{found, removed}
use Rattle.gather.specs.Shown.{siblings_shown, slots_shown, way_shown}
use Rattle.clearing.proofs.RemovalLaws.{removed-length}
use Rattle.mend.specs.Mended.{path_words}
use Rattle.parts.specs.declared.Parts.{Parts}
use Rattle.parts.specs.Parts.{rule_of}
use Rattle.least.specs.Least.{root_slots}
use Rattle.work.specs.PathWork.{path_buckets, least_after}
use Rattle.work.specs.RemovalWork.{removal_buckets, removal_root, removal_least, rooted}
use Rattle.pair.specs.PairWork.{first_after, second_after, second_beside, first_siblings, second_siblings}
use Rattle.copies.specs.Copy.{fetched, stored}
use Rattle.tree.specs.Tree.{Tree, way_of, tree_of}
use Rattle.tree.proofs.PathFetch.{path-way}
use Rattle.tree.proofs.Removal.{root-after-length, removal-stored-length, tree-way-length}
use Rattle.tree.proofs.HalvesLaws.{Halves}
use Rattle.tree.proofs.Insertion.{insertion-stored-length, last-way-length}
use Rattle.settle.specs.Left.{parts_after, rule_after}
use Rattle.good.specs.Good.{Good}
use Rattle.good.specs.Live.{without, Ascending}
use Rattle.good.specs.Heap.{Heap}
use Rattle.good.proofs.AlikeLaws.{more-good}
use Rattle.good.proofs.LowLaws.{live-stamp}
use Rattle.good.proofs.LiveLaws.{without-ascending, append-ascending}
use Rattle.good.proofs.PickLaws.{Picks}
use Rattle.good.proofs.WorkLaws.{taken-count}
use Rattle.good.proofs.RemovalLaws.{removal-good, removal-absent}
use Rattle.good.proofs.InsertionLaws.{insertion-good}

-- the root's places with R of them replaced
module _ (r : ℕ) (slots root : List Record) (wide : length slots ≡ r) where
  rooted-past : drop r (rooted r slots root) ≡ drop r root
  rooted-past = drop_at slots (drop r root) r wide

  rooted-length : r ≤ length root → length (rooted r slots root) ≡ length root
  rooted-length l = rw (length-append slots (drop r root), length-drop, wide) (omega arith)

module _ (p : Parts) (root : List Record) (tree words : List ℕ) (live : List Record)
    (H : Heap p root tree live) (left : p.t < p.sizes.t) where
  abbrev s : Sizes
  s = p.sizes

  abbrev t : ℕ
  t = p.t

  abbrev c : ℕ
  c = p.c

  abbrev least : Record
  least = p.least

  full : s.r ≤ length root
  full = omega (arith, H.places, (in-range s H.sizes).roots.1)

  abbrev T : Tree
  T = tree_of s.z (take s.r root) least tree

  -- good by the rule of the card that comes out, too
  later-good : Good s (rule_after p) T live
  later-good = more-good s (rule_of p) (rule_after p) T live (allows-later (leaves_of s.h) t (suc t) (omega arith)) refl H.good

  -- ---- ExtractMin and Delete
  module _ (q : Leaf) (inside : q.0 < leaves_of s.h) (f : Record → Bool) (stamp : Stamp) (picks : Picks f stamp) (more : List ℕ) where
    abbrev ws : List ℕ
    ws = fetched s.z tree (path_list s.h q) words

    abbrev way : List Record
    way = way_shown s.h s.z s.r root ws 0

    abbrev sibs : List Record
    sibs = siblings_shown s.z ws s.h 0 s.h

    way-is : way ≡ way_of s.h q T
    way-is = path-way s.h s.z s.r q inside root least tree words H.words

    wide : length (removal_root s q f way) ≡ s.r
    wide =
        root-after-length s q (removed f way)
        (removed-length f way ∙ ap length way-is ∙ tree-way-length s q inside root full least tree words H.words)

    -- the parts that hang neither on the count nor on the live events
    module _ (c' : ℕ) (live' : List Record) (count : c' ≡ length live') (fewer : c' ≤ c) (order : Ascending live')
        (good : Good s (rule_after p) (tree_of s.z (take s.r (rooted s.r (removal_root s q f way) root)) (removal_least (rule_after p) s q f sibs way)
        (stored s.z (path_list s.h q).whole (path_words (removal_buckets (rule_after p) s q f sibs way) ++ more) tree)) live') where
      removal-parts : Heap (parts_after p c' (removal_least (rule_after p) s q f sibs way)) (rooted s.r (removal_root s q f way) root)
          (stored s.z (path_list s.h q).whole (path_words (removal_buckets (rule_after p) s q f sibs way) ++ more) tree) live'
      removal-parts =
          record {
            sizes = H.sizes;
            spent = left;
            count = count;
            most = omega (arith, H.most);
            begun = omega (arith, H.begun);
            order = order;
            places = rooted-length s.r (removal_root s q f way) root wide full ∙ H.places;
            past = rw (rooted-past s.r (removal_root s q f way) root wide) H.past;
            words = removal-stored-length s q inside root full least tree words H.words f (rule_after p) more;
            good = good;
          }

    pub removal-heap : found f way ≡ true
        → Heap (parts_after p (c - 1) (removal_least (rule_after p) s q f sibs way)) (rooted s.r (removal_root s q f way) root)
        (stored s.z (path_list s.h q).whole (path_words (removal_buckets (rule_after p) s q f sibs way) ++ more) tree) (without stamp live)
    removal-heap there =
        let n = taken-count s q inside T live (rule_of p) H.good f stamp picks (rw way-is at there) in
        removal-parts (c - 1) (without stamp live) (omega (arith, H.count)) (omega arith) (without-ascending stamp H.order)
        (removal-good s q inside root full least tree words H.words live (rule_after p) later-good f stamp picks more there)

    pub absent-heap : found f way ≡ false
        → Heap (parts_after p c (removal_least (rule_after p) s q f sibs way)) (rooted s.r (removal_root s q f way) root)
        (stored s.z (path_list s.h q).whole (path_words (removal_buckets (rule_after p) s q f sibs way) ++ more) tree) live
    absent-heap gone =
        removal-parts c live H.count (omega arith) H.order
        (removal-absent s q inside root full least tree words H.words live (rule_after p) later-good f stamp picks more gone)

  -- ---- Insert
  module _ (first second : Leaf) (halves : Halves s.h first second) (new : Record) (stamp : new.stamp.0 ≡ t)
      (proper : is_proper (rule_after p) new ≡ true) (few : c < leaves_of s.h) (more : List ℕ) where
    abbrev ws₂ : List ℕ
    ws₂ = fetched s.z tree (pair_list s.h first second) words

    abbrev way₁ : List Record
    way₁ = way_shown s.h s.z s.r root ws₂ 0

    abbrev slots₂ : List Record
    slots₂ = slots_shown s.z ws₂ s.h s.h

    abbrev b₁ : ℕ → Record
    b₁ = first_siblings s ws₂

    abbrev b₂ : ℕ → Record
    b₂ = second_siblings s ws₂

    abbrev after₁ : List Record
    after₁ = first_after s first new way₁

    abbrev after₂ : List Record
    after₂ = second_after s first second new way₁ slots₂

    abbrev beside : ℕ → Record
    beside = second_beside (rule_after p) s first b₁ after₁ b₂

    fresh : (y : Record) → Memᴰ y live → y.stamp.0 < new.stamp.0
    fresh y m = omega (arith, live-stamp s (rule_of p) T live H.good y m)

    pub insertion-heap : seek is_dummy s.r way₁ < s.r
        → Heap (parts_after p (suc c) (least_after (rule_after p) s second beside after₂)) (rooted s.r (root_slots s.r after₂) root)
        (stored s.z (pair_list s.h first second).whole
        (path_words (path_buckets (rule_after p) s first b₁ after₁ ++ path_buckets (rule_after p) s second beside after₂) ++ more) tree)
        (live ++ (new ∷ []))
    insertion-heap room =
        let wide = root-after-length s second _ (last-way-length (rule_after p) s first second halves new root full least tree words H.words) in
        record {
          sizes = H.sizes;
          spent = left;
          count = rw length-append (omega (arith, H.count));
          most = few;
          begun = omega (arith, H.begun);
          order = append-ascending new H.order fresh;
          places = rooted-length s.r (root_slots s.r after₂) root wide full ∙ H.places;
          past = rw (rooted-past s.r (root_slots s.r after₂) root wide) H.past;
          words = insertion-stored-length (rule_after p) s first second halves new root full least tree words H.words more;
          good =
              insertion-good s first second halves root full least tree words H.words live (rule_after p) later-good new fresh proper room more;
        }
