-- What `Stands` says, in the words of demand 2: each live event in exactly one slot, on the path of its label, and in no slot
-- anything else but the dummy. `stands-plainly` in proofs/StandsLaws.antt. Assumes nothing.
use Rattle.std.specs.Prelude.{ℕ, ◌<◌, ◌⊎◌, ◌≡◌, length, get_or, take}
use mathlib.Core.List.{Memᴰ}
use Rattle.record.specs.declared.Bucket.{Bucket}
use Rattle.record.specs.declared.Record.{Record}
use Rattle.record.specs.Standing.{dummy}
use Rattle.parts.specs.Parts.{rule_of}
use Rattle.card.specs.Tables.{parts_of}
use Rattle.tree.specs.Tree.{Tree, InTree, tree_of}
use Rattle.tree.specs.Path.{OnPath}
use Rattle.good.specs.Good.{LeastTrue}
use Rattle.demands.specs.Queue.{Event, Queue}
use Rattle.world.specs.World.{World}
use Rattle.demands.specs.Says.{event_of}

module _ (u : World) where
  -- what each bucket holds, the root's slots and least record out of the card and all others out of the tree
  abbrev pub buckets : Tree
  buckets = tree_of u.card.sizes.z (take u.card.sizes.r u.card.root) u.card.least u.tree

  -- slot i of bucket b
  pub record Slot (b : Bucket) (i : ℕ) : Type 0 where
    pub within : InTree u.card.sizes.h b
    pub place : i < length (buckets b).slots

  abbrev pub in_slot : Bucket → ℕ → Record
  in_slot b i = get_or (buckets b).slots i dummy

  pub record Plainly (q : Queue) : Type 0 where
    -- each live event is in some slot, whose bucket its label's path holds
    pub seated :
        (e : Event) → Memᴰ e q.events
        → (b : Bucket) × (i : ℕ) × Slot b i × (event_of (in_slot b i) ≡ e) × OnPath u.card.sizes.h (in_slot b i).label b
    -- and in no other
    pub once :
        (e : Event) → Memᴰ e q.events → (a b : Bucket) (i j : ℕ) → Slot a i → Slot b j → event_of (in_slot a i) ≡ e
        → event_of (in_slot b j) ≡ e → (a ≡ b) × (i ≡ j)
    -- "Nothing else may stand in a slot."
    pub nothing_else : (b : Bucket) (i : ℕ) → Slot b i → (in_slot b i ≡ dummy) ⊎ Memᴰ (event_of (in_slot b i)) q.events
    -- "the smallest of its own slots and its children's least records, or the dummy"
    pub leasts : (b : Bucket) → InTree u.card.sizes.h b → LeastTrue (rule_of (parts_of u.card)) u.card.sizes.h buckets b
    -- "the count c of live events"
    pub count : u.card.c ≡ length q.events
