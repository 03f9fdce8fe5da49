-- What is asked of the 64 places of a card's root, of which R are slots: document 01, BadCard and Overflow.
-- The dummy is no record here. Assumes nothing.
use Rattle.std.specs.Prelude.{ℕ, Bool, not, ◌&&◌, ◌||◌, List, leb, take, drop}
use Rattle.record.specs.declared.Rule.{Rule}
use Rattle.record.specs.declared.Record.{Record}
use Rattle.record.specs.Standing.{is_dummy, may_stand}
use Rattle.record.specs.Order.{before}
use Rattle.record.specs.Many.{every, reals, stamp_twice}

module _ (r : ℕ) (root : List Record) where
  -- "a root slot that is neither proper nor dummy"
  unfoldable pub strange_slot : Rule → Bool
  strange_slot rule = not (every (may_stand rule) (take r root))

  -- "slots past R not dummy"
  unfoldable pub used_past : Bool
  used_past = not (every is_dummy (drop r root))

  -- "two root records with one stamp"
  unfoldable pub stamp_shared : Bool
  stamp_shared = stamp_twice (take r root)

  -- how many root records there are
  unfoldable pub root_records : ℕ
  root_records = reals (take r root)

  -- "greater than some root record"
  unfoldable pub greater_than_some : Rule → Record → Bool
  greater_than_some rule least = not (every (λ x. is_dummy x || before rule least x) (take r root))

  -- "every root slot real"
  unfoldable pub root_full : Bool
  root_full = every (λ x. not (is_dummy x)) (take r root)

-- What one pass over the slots finds out: each may stand, none is a record before `least`, and no more than `live` are
-- records.
unfoldable pub slots_fine : Rule → Record → ℕ → List Record → Bool
slots_fine rule least live slots =
    every (may_stand rule) slots
    && (every (λ x. is_dummy x || before rule least x) slots && leb (reals slots) live)
