-- Insert on a good heap in words: what was fetched is not Damaged, and what finish leaves, stored by the rack, is a good heap
-- with the event. Assumes nothing.
use Prim.Native.Nat.{ℕ, suc, ◌+◌, ◌*◌, ◌-◌, ◌≤◌, ◌<◌}
use mathlib.Core.Bool.{true, false}
use mathlib.Core.List.{List, [], ◌∷◌, ◌++◌, Memᴰ, append_assoc}
use mathlib.Core.Path.{◌≡◌, refl, ap, ◌∙◌}
use native.Mathlib.Omega.{arith}
use lib.ListN.{length, take}
use Rattle.record.specs.declared.Leaf.{Leaf}
use Rattle.record.specs.declared.Record.{Record}
use Rattle.record.specs.declared.Rule.{Rule}
use Rattle.record.specs.Standing.{is_dummy, is_proper}
use Rattle.path.specs.declared.sizes.Sizes.{Sizes}
use Rattle.path.specs.Sizes.{leaves_of}
use Rattle.path.specs.Path.{root as the_root}
use Rattle.path.specs.Layout.{Contents, tree_words}
use Rattle.lists.specs.BucketList.{pair_list}
use Rattle.way.specs.Evict.{seek}
use Rattle.gather.specs.Shown.{slots_shown, way_shown}
use Rattle.gather.proofs.ShownLaws.{slots-split}
use Rattle.mend.specs.Mended.{path_words}
use Rattle.least.specs.Least.{root_slots}
use Rattle.work.specs.PathWork.{path_buckets, least_after}
use Rattle.pair.specs.PairWork.{first_after, second_after, second_beside, first_siblings, second_siblings}
use Rattle.work.specs.RemovalWork.{rooted}
use Rattle.sound.specs.Fetched.{first_fetched, second_fetched}
use Rattle.damage.specs.Damaged.{pair_damaged}
use Rattle.damage.proofs.FetchedLaws.{pair-alike}
use Rattle.copies.specs.Copy.{fetched, stored}
use Rattle.tree.specs.Tree.{Tree, way_of, tree_of}
use Rattle.tree.specs.Work.{inserted}
use Rattle.tree.proofs.PathFetch.{tree-root}
use Rattle.tree.proofs.HalvesLaws.{Halves}
use Rattle.tree.proofs.PairFetch.{first-shows, second-shows, pair-way, pair-slots, first-beside, second-beside}
use Rattle.tree.proofs.Insertion.{insertion-stored}
use Rattle.good.specs.Good.{Good}
use Rattle.good.proofs.AlikeLaws.{alike-good}
use Rattle.good.proofs.DamageLaws.{shown_by}
use Rattle.good.proofs.InsertLaws.{inserted-good, good-pair}
use Rattle.tree.proofs.ShownLaws.{below_of}

module _ (s : Sizes) (first second : Leaf) (p : Halves s.h first second) (root : List Record) (full : s.r ≤ length root) (least : Record)
    (tree words : List ℕ) (size : length tree ≡ tree_words s.h s.z) (live : List Record) (rule : Rule)
    (g : Good s rule (tree_of s.z (take s.r root) least tree) live) where
  abbrev T : Tree
  T = tree_of s.z (take s.r root) least tree

  abbrev ws : List ℕ
  ws = fetched s.z tree (pair_list s.h first second) words

  abbrev way : List Record
  way = way_shown s.h s.z s.r root ws 0

  abbrev slots₂ : List Record
  slots₂ = slots_shown s.z ws s.h s.h

  abbrev b₁ : ℕ → Record
  b₁ = first_siblings s ws

  abbrev b₂ : ℕ → Record
  b₂ = second_siblings s ws

  -- ---- Damaged is denied
  -- the slots of both paths: the first path's way, then the second path's slots
  both_ways : way_shown (2 * s.h) s.z s.r root ws 0 ≡ way_of s.h first T ++ below_of s.h second T s.h
  unfolding way_shown
  both_ways =
      let e : 2 * s.h ≡ s.h + s.h = omega arith in
      let n : 0 + s.h ≡ s.h = omega arith in
      rw (e, slots-split s.z ws 0 s.h s.h, n, ← append_assoc)
      (ap (λ (w : List Record). w ++ slots₂) (pair-way s.h s.z s.r first second p root least tree words size)
      ∙ ap (λ (l : List Record). way_of s.h first T ++ l) (pair-slots s.h s.z s.r first second p root least tree words size))

  pub pair-undamaged :
      pair_damaged s.h s.r rule least (first_fetched s.h s.z first (fetched s.z tree (pair_list s.h first second) words))
      (second_fetched s.h s.z second (fetched s.z tree (pair_list s.h first second) words))
      (way_shown (2 * s.h) s.z s.r root (fetched s.z tree (pair_list s.h first second) words) 0) ≡ false
  pair-undamaged =
      pair-alike s.h s.r p.high rule least _ (first_fetched s.h s.z first ws) (second_fetched s.h s.z second ws)
      (shown_by s.h first T) (shown_by s.h second T)
      (record {
        leaf = refl;
        shown = λ d l m.
            let e : suc (d - 1) ≡ d = omega arith in
            first-shows s.h s.z s.r first second p root least tree words size (d - 1) (omega arith) ∙ rw e;
        beside = λ d l m.
            let f : 0 + (d - 2) ≡ d - 2 = omega arith in
            rw f (first-beside s.h s.z s.r first second p root least tree words size d l m);
      })
      (record {
        leaf = refl;
        shown = λ d l m.
            let e : suc (d - 1) ≡ d = omega arith in
            second-shows s.h s.z s.r first second p root least tree words size (d - 1) (omega arith) ∙ rw e;
        beside = λ d l m. second-beside s.h s.z s.r first second p root least tree words size d l m;
      })
      ∙ rw both_ways (rw top at (good-pair s first second p T live rule g))
    where
      top : (T the_root).least ≡ least
      top = ap (λ (c : Contents). c.least) (tree-root s.z (take s.r root) least tree)

  -- ---- what finish leaves, stored
  module _ (new : Record) (fresh : (y : Record) → Memᴰ y live → y.stamp.0 < new.stamp.0)
      (proper : is_proper rule new ≡ true) (room : seek is_dummy s.r way < s.r) (more : List ℕ) where
    abbrev after₁ : List Record
    after₁ = first_after s first new way

    abbrev after₂ : List Record
    after₂ = second_after s first second new way slots₂

    abbrev beside : ℕ → Record
    beside = second_beside rule s first b₁ after₁ b₂

    abbrev after : Tree
    after =
        tree_of s.z (take s.r (rooted s.r (root_slots s.r after₂) root)) (least_after rule s second beside after₂)
        (stored s.z (pair_list s.h first second).whole
        (path_words (path_buckets rule s first b₁ after₁ ++ path_buckets rule s second beside after₂) ++ more) tree)

    pub insertion-good : Good s rule after (live ++ (new ∷ []))
    insertion-good =
        let room' = rw (pair-way s.h s.z s.r first second p root least tree words size) at room in
        alike-good s (inserted rule s first second new T) after (insertion-stored rule s first second p new root full least tree words size more)
        rule (live ++ (new ∷ [])) (inserted-good s first second p T live rule g new fresh proper room')
