-- Least records along one way: document 01, "Least records of the evicted paths are then worked out from the leaf up, the
-- root last." Assumes nothing.
use Rattle.std.specs.Prelude.{ℕ, zero, suc, ◌+◌, ◌*◌, ◌-◌, ◌%◌, cond, List, [], ◌∷◌, map, eqb, take, drop}
use Rattle.record.specs.declared.Leaf.{Leaf}
use Rattle.record.specs.declared.Bucket.{Bucket}
use Rattle.record.specs.declared.Record.{Record}
use Rattle.record.specs.declared.Rule.{Rule}
use Rattle.record.specs.Order.{smaller, least_of}
use Rattle.path.specs.Path.{number, path_bucket, up_from}
use Rattle.path.specs.Layout.{Contents}

-- the slots of level d of a way, from level 1 on; and the root's
unfoldable pub slots_at : ℕ → ℕ → List Record → ℕ → List Record
slots_at r z w d = take z (drop (r + z * (d - 1)) w)

abbrev pub root_slots : ℕ → List Record → List Record
root_slots r w = take r w

-- the smallest of some records and of one that stands after them
unfoldable pub over : Rule → List Record → Record → Record
over rule [] last = last
over rule (x ∷ xs) last = smaller rule x (over rule xs last)

-- the least records of a bucket and of its sibling, "the lower child" first
unfoldable pub in_order : Bucket → Record → Record → List Record
in_order b own other = cond (eqb (number b % 2) 0) (own ∷ other ∷ []) (other ∷ own ∷ [])

-- The path of leaf q: `slots d` are the slots of level d, `beside d` is the least record of the sibling there.
module _ (rule : Rule) (h : ℕ) (q : Leaf) (slots : ℕ → List Record) (beside : ℕ → Record) where
  -- the least records of the children of the path's bucket that is j levels above the leaf; the leaf's bucket has none
  unfoldable pub kids : ℕ → List Record
  kids zero = []
  kids (suc j) = in_order (path_bucket h q (h - j)) (least_of rule (slots (h - j)) (kids j)) (beside (h - j))

  -- the path's bucket at level d, with its least record
  abbrev pub mended_at : ℕ → Contents
  mended_at d = record { least = least_of rule (slots d) (kids (h - d)); slots = slots d }

  -- the path's buckets at levels 1 to h
  abbrev pub mended : List Contents
  mended = map mended_at (up_from 1 h)
