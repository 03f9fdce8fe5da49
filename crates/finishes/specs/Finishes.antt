-- What the finish of a job leaves, and when it is Damaged: document 01, "A request, step by step". What one removal and
-- one insertion leave stands in settle/specs/Left.antt; here they are taken for the job. Assumes nothing.
use Rattle.std.specs.Prelude.{ℕ, Bool, List}
use Rattle.record.specs.declared.Record.{Record}
use Rattle.parts.specs.declared.Parts.{Parts}
use Rattle.request.specs.declared.job.Job.{Job}
use Rattle.request.specs.declared.job.Job.TheVariants.{Path, Pair}
use Rattle.clearing.specs.Removal.{named}
use Rattle.settle.specs.Left.{Left, removal, insertion, removal_damaged, insertion_damaged}
use Rattle.settle.specs.Room.{RemovalRoom, InsertionRoom}

module _ (p : Parts) (root : List Record) where
  abbrev pub left_for : Job → List ℕ → Left
  left_for (Path leaf label stamp) ws = removal p root ws leaf (named label stamp)
  left_for (Pair first second new) ws = insertion p root ws first second new

  abbrev pub damaged_for : Job → List ℕ → Bool
  damaged_for (Path leaf label stamp) ws = removal_damaged p root ws leaf (named label stamp)
  damaged_for (Pair first second new) ws = insertion_damaged p root ws first second new

-- what is asked for: the parts fit, the leaves are the tree's, and the words are there
abbrev pub Finishable : Parts → Job → List ℕ → Type 0
Finishable p (Path leaf label stamp) ws = RemovalRoom p leaf ws
Finishable p (Pair first second new) ws = InsertionRoom p first second ws
