-- An Insert worked out and judged: what is handed back, and the buckets' words of both paths. Assumes nothing.
use Rattle.std.specs.Prelude.{ℕ, ◌*◌, ◌-◌, cond, List, Result, Ok, ◌≡◌}
use Rattle.record.specs.declared.Leaf.{Leaf}
use Rattle.record.specs.declared.Record.{Record}
use Rattle.path.specs.Layout.{record_words}
use Rattle.parts.specs.declared.Parts.{Parts}
use Rattle.mend.specs.Mended.{path_words}
use Rattle.settle.specs.declared.Damaged.{Damaged}
use Rattle.settle.specs.declared.Settled.{Settled}
use Rattle.settle.specs.Left.{lower_left, upper_left, insertion, pair_bad, insertion_damaged}
use Rattle.settle.specs.Settled.{settled, unsettled}

-- the words moved so far are the siblings'. Where what was fetched is Damaged the buckets' scratches stay as they were
pub record PairPrepared
    (p : Parts) (root : List Record) (ws : List ℕ) (first second : Leaf) (new : Record) (one₀ two₀ one two : List ℕ)
    (out : Result Settled Damaged) : Type 0 where
  pub whole :
      out
      ≡ cond (insertion_damaged p root ws first second new) unsettled
      (Ok (settled (insertion p root ws first second new) (2 * (p.sizes.h - 1) * record_words)))
  pub lower : one ≡ cond (pair_bad p root ws first second) one₀ (path_words (lower_left p root ws first new))
  pub upper : two ≡ cond (pair_bad p root ws first second) two₀ (path_words (upper_left p root ws first second new))
