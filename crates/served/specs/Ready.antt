-- A card and the tree that goes with it, between two calls. Assumes nothing.
use Rattle.std.specs.Prelude.{ℕ, List, ◌≡◌}
use Rattle.record.specs.declared.Record.{Record}
use Rattle.refusal.specs.Refusal.{first_given}
use Rattle.card.specs.declared.Card.{Card}
use Rattle.card.specs.Tables.{parts_of, waiting_table}
use Rattle.good.specs.Heap.{Heap}

-- They hold a good heap of these live events, and the request that waits, if any, is one that begin takes.
pub record Ready (k : Card) (tree : List ℕ) (live : List Record) : Type 0 where
  pub heap : Heap (parts_of k) k.root tree live
  pub waiting : first_given (waiting_table k k.waiting) ≡ 0
