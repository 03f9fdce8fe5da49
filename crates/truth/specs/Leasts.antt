-- Clause 3 of Damaged, below the root: document 01, "the least record of a path bucket .. isn't the one its slots and children
-- give". It is a Bool that computes, over what was fetched for one path: `shown d` is the path's bucket at level d,
-- `beside d` the least record of the sibling there. Assumes nothing.
use Rattle.std.specs.Prelude.{ℕ, suc, Bool, cond, List, [], ltb}
use Rattle.record.specs.declared.Leaf.{Leaf}
use Rattle.record.specs.declared.Record.{Record}
use Rattle.record.specs.declared.Rule.{Rule}
use Rattle.record.specs.Standing.{same}
use Rattle.record.specs.Many.{every}
use Rattle.record.specs.Order.{least_of}
use Rattle.path.specs.Path.{path_bucket, up_from}
use Rattle.path.specs.Layout.{Contents}
use Rattle.least.specs.Least.{in_order}
use Rattle.sound.specs.Fetched.{Fetched}

module _ (h : ℕ) (q : Leaf) (shown : ℕ → Contents) (beside : ℕ → Record) where
  -- the fetched least records of the children of the path's bucket at level d; the leaf's bucket has none
  unfoldable pub kids_shown : ℕ → List Record
  kids_shown d = cond (ltb d h) (in_order (path_bucket h q (suc d)) (shown (suc d)).least (beside (suc d))) []

  -- the least record of each path bucket is "the one its slots and children give"
  unfoldable pub leasts_true : Rule → Bool
  leasts_true rule = every (λ d. same (shown d).least (least_of rule (shown d).slots (kids_shown d))) (up_from 1 h)

-- of what was fetched: at one level, and at all
module _ (h : ℕ) (rule : Rule) (p : Fetched) where
  abbrev pub true_at : ℕ → Bool
  true_at d = same (p.shown d).least (least_of rule (p.shown d).slots (kids_shown h p.leaf p.shown p.beside d))

  abbrev pub all_true : Bool
  all_true = leasts_true h p.leaf p.shown p.beside rule
