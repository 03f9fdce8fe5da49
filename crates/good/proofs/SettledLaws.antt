-- A good heap through a finish, by the definitions that finish cites: what it leaves, stored by the rack, is a good heap with
-- the live events as they should be, and it is not Damaged, by any of the four clauses. Assumes nothing.
use Prim.Native.Nat.{ℕ, suc, ◌<◌}
use mathlib.Core.Bool.{Bool, true, false, cond}
use mathlib.Core.List.{List, [], ◌∷◌, ◌++◌}
use mathlib.Core.Logic.{inl, inr}
use mathlib.Core.Path.{◌≡◌}
use mathlib.Mathlib.Data.Bool.Basic.{dichotomy}
use Rattle.record.specs.declared.Leaf.{Leaf}
use Rattle.record.specs.declared.Stamp.{Stamp}
use Rattle.record.specs.declared.Record.{Record}
use Rattle.record.specs.Standing.{is_proper}
use Rattle.path.specs.declared.sizes.Sizes.{Sizes}
use Rattle.path.specs.Sizes.{leaves_of}
use Rattle.lists.specs.BucketList.{path_list, pair_list}
use Rattle.root.specs.Root.{root_full}
use Rattle.clearing.specs.Removal.{found}
use Rattle.parts.specs.declared.Parts.{Parts}
use Rattle.settle.specs.Left.{Left, words_left, path_way, parts_after, rule_after, removal, insertion, removal_damaged, insertion_damaged}
use Rattle.copies.specs.Copy.{fetched, stored}
use Rattle.tree.proofs.HalvesLaws.{Halves}
use Rattle.good.specs.Live.{without}
use Rattle.good.specs.Heap.{Heap}
use Rattle.good.proofs.PickLaws.{Picks}
use Rattle.good.proofs.FewLaws.{heap-card}
use Rattle.good.proofs.HeapLaws.{removal-heap, absent-heap, insertion-heap}
use Rattle.good.proofs.FoundLaws.{heap-full, root-room, heap-path, heap-pair}

module _ (p : Parts) (root : List Record) (tree words : List ℕ) (live : List Record)
    (H : Heap p root tree live) (left : p.t < p.sizes.t) where
  abbrev s : Sizes
  s = p.sizes

  abbrev t : ℕ
  t = p.t

  abbrev c : ℕ
  c = p.c

  abbrev least : Record
  least = p.least

  -- ---- ExtractMin and Delete, by any test that names one event by its stamp
  module _ (q : Leaf) (inside : q.0 < leaves_of s.h) (f : Record → Bool) (stamp : Stamp) (picks : Picks f stamp) where
    abbrev ws : List ℕ
    ws = fetched s.z tree (path_list s.h q) words

    abbrev out : Left
    out = removal p root ws q f

    -- the live events afterwards
    abbrev others : List Record
    others = cond out.found (without stamp live) live

    pub removal-kept : Heap (parts_after p out.c out.least) out.root (stored s.z (path_list s.h q).whole (words_left out ws) tree) others
    unfolding removal
    removal-kept = elim (dichotomy (found f (path_way s root ws))) [
      | inl gone ↦ rw gone (absent-heap p root tree words live H left q inside f stamp picks _ gone)
      | inr there ↦ rw there (removal-heap p root tree words live H left q inside f stamp picks _ there)
    ]

    pub removal-undamaged : removal_damaged p root ws q f ≡ false
    unfolding removal_damaged
    removal-undamaged =
        rw (heap-path p root tree words live H q inside, heap-card (parts_after p out.c out.least) out.root _ others removal-kept)

  -- ---- Insert
  module _ (first second : Leaf) (halves : Halves s.h first second) (new : Record) (stamp : new.stamp.0 ≡ t)
      (proper : is_proper (rule_after p) new ≡ true) (few : c < leaves_of s.h) (room : root_full s.r root ≡ false) where
    abbrev ws₂ : List ℕ
    ws₂ = fetched s.z tree (pair_list s.h first second) words

    abbrev out₂ : Left
    out₂ = insertion p root ws₂ first second new

    pub insertion-kept :
        Heap (parts_after p out₂.c out₂.least) out₂.root
        (stored s.z (pair_list s.h first second).whole (words_left out₂ ws₂) tree) (live ++ (new ∷ []))
    unfolding insertion
    insertion-kept =
        insertion-heap p root tree words live H left first second halves new stamp proper few _
        (root-room s.h s.z s.r root ws₂ 0 room (heap-full p root tree words live H))

    pub insertion-undamaged : insertion_damaged p root ws₂ first second new ≡ false
    unfolding insertion_damaged
    insertion-undamaged =
        rw (
          heap-pair p root tree words live H first second halves,
          heap-card (parts_after p out₂.c out₂.least) out₂.root _ (live ++ (new ∷ [])) insertion-kept,
        )
