-- A finish on a ready card, for each request that may wait: it is not Damaged, and the card that comes out is ready, with the
-- tree into which the rack has stored the whole buckets. Assumes nothing.
use Prim.Native.Nat.{ℕ, ◌≤◌, ◌<◌}
use mathlib.Core.Bool.{Bool, true, false, cond}
use mathlib.Core.List.{List, [], ◌∷◌, ◌++◌}
use mathlib.Core.Path.{◌≡◌, refl}
use native.Mathlib.Omega.{arith}
use Rattle.std.specs.Prelude.{Some}
use Rattle.record.specs.declared.Leaf.{Leaf}
use Rattle.record.specs.declared.Stamp.{Stamp}
use Rattle.record.specs.declared.Record.{Record}
use Rattle.record.specs.Standing.{dummy_key, record_of, is_proper}
use Rattle.record.proofs.StandingLaws.{true-proper, below-known}
use Rattle.path.specs.Sizes.{leaves_of}
use Rattle.lists.specs.BucketList.{path_list, pair_list}
use Rattle.path.proofs.SizesLaws.{in-range}
use Rattle.clearing.specs.Removal.{named, found}
use Rattle.refusal.specs.Refusal.{first_given}
use Rattle.settle.specs.Left.{Left, words_left, parts_after, rule_after, removal, insertion, removal_damaged, insertion_damaged}
use Rattle.copies.specs.Copy.{fetched, stored}
use Rattle.card.specs.declared.Card.{Card}
use Rattle.parts.specs.Parts.{next_stamp}
use Rattle.request.specs.declared.Request.{Request}
use Rattle.request.specs.declared.Request.TheVariants.{Insert, Extract, Delete}
use Rattle.card.specs.Tables.{parts_of, request_table}
use Rattle.card.specs.Finish.{card_left}
use Rattle.card.proofs.BeginLaws.{Insertable, insertable, extractable, Deletable, deletable}
use Rattle.tree.proofs.HalvesLaws.{Halves}
use Rattle.good.specs.Live.{without}
use Rattle.good.specs.Heap.{Heap}
use Rattle.good.proofs.PickLaws.{named-picks, is-named}
use Rattle.good.proofs.FewLaws.{least-real}
use Rattle.good.proofs.FoundLaws.{least-inside, extract-found, found-as-live}
use Rattle.good.proofs.SettledLaws.{removal-kept, removal-undamaged, insertion-kept, insertion-undamaged}
use Rattle.served.specs.Ready.{Ready}
use Rattle.served.proofs.CallLaws.{none-waits, waiting-taken}

module _ (k : Card) (tree words : List ℕ) (live : List Record) (r : Ready k tree live) where
  abbrev H : Heap (parts_of k) k.root tree live
  H = r.heap

  taken : (q : Request) → k.waiting ≡ Some q → first_given (request_table k q) ≡ 0
  taken q = waiting-taken k tree live q r

  ready-left : (l : Left) (after : List ℕ) (live' : List Record) → Heap (parts_after (parts_of k) l.c l.least) l.root after live'
      → Ready (card_left k l) after live'
  ready-left l after live' h = record { heap = h; waiting = none-waits (card_left k l) }

  -- ---- one path: the record of this label and stamp goes, if it is there
  abbrev path_shown : Leaf → List ℕ
  path_shown leaf = fetched k.sizes.z tree (path_list k.sizes.h leaf) words

  abbrev path_left : Leaf → Leaf → Stamp → Left
  path_left leaf label stamp = removal (parts_of k) k.root (path_shown leaf) leaf (named label stamp)

  module _ (leaf label : Leaf) (stamp : Stamp) (inside : leaf.0 < leaves_of k.sizes.h) (left : k.t < k.sizes.t) where
    abbrev ws : List ℕ
    ws = path_shown leaf

    abbrev out : Left
    out = path_left leaf label stamp

    path-undamaged : removal_damaged (parts_of k) k.root ws leaf (named label stamp) ≡ false
    path-undamaged =
        removal-undamaged (parts_of k) k.root tree words live H left leaf inside (named label stamp) stamp (named-picks label stamp)

    path-ready : (there : Bool) → out.found ≡ there
        → Ready (card_left k out) (stored k.sizes.z (path_list k.sizes.h leaf).whole (words_left out ws) tree) (cond there (without stamp live) live)
    path-ready there e =
        ready-left out _ (cond there (without stamp live) live)
        (rw e at (removal-kept (parts_of k) k.root tree words live H left leaf inside (named label stamp) stamp (named-picks label stamp)))

  -- ---- ExtractMin
  module _ (w : k.waiting ≡ Some Extract) where
    abbrev m : Record
    m = k.least

    some : 1 ≤ k.c
    some = omega (arith, (extractable k (taken Extract w)).some)

    time : k.t < k.sizes.t
    time = omega (arith, (extractable k (taken Extract w)).time, H.spent)

    within : m.label.0 < leaves_of k.sizes.h
    within = least-inside (parts_of k) k.root tree words live H some

    pub extract-undamaged : removal_damaged (parts_of k) k.root (path_shown m.label) m.label (named m.label m.stamp) ≡ false
    extract-undamaged = path-undamaged m.label m.label m.stamp within time

    -- it is always found
    pub extract-there : (path_left m.label m.label m.stamp).found ≡ true
    unfolding removal
    extract-there =
        extract-found (parts_of k) k.root tree words live H some (named m.label m.stamp) (named-picks m.label m.stamp)
        (is-named m.label m.stamp m (least-real (parts_of k) k.root tree live H some) refl refl)

    -- "replaces the root's least record .. by the dummy"
    abbrev gone : Left
    gone = path_left m.label m.label m.stamp

    pub extract-ready :
        Ready (card_left k gone)
        (stored k.sizes.z (path_list k.sizes.h m.label).whole (words_left gone (path_shown m.label)) tree)
        (without m.stamp live)
    extract-ready = path-ready m.label m.label m.stamp within time true extract-there

  -- ---- Delete
  module _ (label : Leaf) (stamp : Stamp) (w : k.waiting ≡ Some (Delete label stamp)) where
    rules : Deletable k label stamp
    rules = deletable k label stamp (taken _ w)

    due : k.t < k.sizes.t
    due = omega (arith, rules.time, H.spent)

    abbrev deleted : Left
    deleted = path_left label label stamp

    pub delete-undamaged : removal_damaged (parts_of k) k.root (path_shown label) label (named label stamp) ≡ false
    delete-undamaged = path-undamaged label label stamp rules.label due

    -- found, or Absent, as it is among the live events
    pub delete-found : deleted.found ≡ found (named label stamp) live
    unfolding removal
    delete-found = found-as-live (parts_of k) k.root tree words live H label rules.label stamp

    pub delete-ready :
        Ready (card_left k deleted)
        (stored k.sizes.z (path_list k.sizes.h label).whole (words_left deleted (path_shown label)) tree)
        (cond (found (named label stamp) live) (without stamp live) live)
    delete-ready = path-ready label label stamp rules.label due _ delete-found

  -- ---- Insert: the key is a 64-bit number
  module _ (key value : ℕ) (label first second : Leaf) (w : k.waiting ≡ Some (Insert key value label first second)) (word : key ≤ dummy_key) where
    abbrev new : Record
    new = record_of key value label (next_stamp (parts_of k))

    abbrev ws₂ : List ℕ
    ws₂ = fetched k.sizes.z tree (pair_list k.sizes.h first second) words

    abbrev out₂ : Left
    out₂ = insertion (parts_of k) k.root ws₂ first second new

    accepts : Insertable k key label first second
    accepts = insertable k key value label first second (taken _ w)

    spare : k.t < k.sizes.t
    spare = omega (arith, accepts.time, H.spent)

    halves : Halves k.sizes.h first second
    halves =
        record {
          high = (in-range k.sizes H.sizes).tree.height.0;
          low = accepts.first;
          above = accepts.second.0;
          most = accepts.second.1;
        }

    proper : is_proper (rule_after (parts_of k)) new ≡ true
    proper =
        let other = accepts.key in
        true-proper (rule_after (parts_of k)) new
        (record { key = omega arith; label = accepts.label; stamp = below-known (rule_after (parts_of k)) (next_stamp (parts_of k)) (omega arith) })

    few : k.c < leaves_of k.sizes.h
    few = omega (arith, accepts.space, H.most)

    pub insert-undamaged : insertion_damaged (parts_of k) k.root ws₂ first second new ≡ false
    insert-undamaged =
        insertion-undamaged (parts_of k) k.root tree words live H spare first second halves new refl proper few
        accepts.slot

    pub insert-ready :
        Ready (card_left k out₂) (stored k.sizes.z (pair_list k.sizes.h first second).whole (words_left out₂ ws₂) tree) (live ++ (new ∷ []))
    insert-ready =
        ready-left out₂ _ (live ++ (new ∷ []))
        (insertion-kept (parts_of k) k.root tree words live H spare first second halves new refl proper few accepts.slot)
