-- What a finish hands back to the card, and the fetched words afterwards: all that is left, or Damaged and all as it was.
-- Assumes nothing.
use Rattle.std.specs.Prelude.{ℕ, ◌+◌, ◌*◌, Bool, false, cond, List, ◌++◌, Result, Ok, Err, ◌≡◌, length, drop}
use Rattle.path.specs.Layout.{record_words}
use Rattle.mend.specs.Mended.{path_words}
use Rattle.parts.specs.declared.Parts.{Parts}
use Rattle.judge.specs.BadParts.{bad_parts}
use Rattle.settle.specs.declared.Damaged.{Damaged}
use Rattle.settle.specs.declared.Settled.{Settled}
use Rattle.settle.specs.Left.{Left, words_left, parts_after}

-- a finish that was done, with the words moved
abbrev pub settled : Left → ℕ → Settled
settled l moved =
    record { root = l.root; least = l.least; c = l.c; found = l.found; moved = moved }

-- one that is Damaged
abbrev pub unsettled : {A : Type 0} → Result A Damaged
unsettled = Err (record {})

-- what would come out, or Damaged, where that is a BadCard
unfoldable pub judged : Parts → Settled → Result Settled Damaged
judged p next = cond (bad_parts (parts_after p next.c next.least) next.root) unsettled (Ok next)

-- all worked out: the words moved so far are those of so many siblings, and the whole buckets' words are ready unless it
-- is Damaged
pub record Prepares (damaged : Bool) (l : Left) (siblings : ℕ) (path : List ℕ) (out : Result Settled Damaged) : Type 0 where
  pub whole : out ≡ cond damaged unsettled (Ok (settled l (siblings * record_words)))
  pub ready : damaged ≡ false → path ≡ path_words l.buckets

-- the stores: the prepared words take the place of the first of the fetched ones, and so many words more were moved
pub record Writes (path : List ℕ) (stores : ℕ) (before after : List ℕ) (out done : Settled) : Type 0 where
  pub whole :
      done ≡ record { root = out.root; least = out.least; c = out.c; found = out.found; moved = out.moved + stores }
  pub words : after ≡ path ++ drop (length path) before

pub record Settles
    (damaged : Bool) (l : Left) (moved : ℕ) (before after : List ℕ) (out : Result Settled Damaged) : Type 0 where
  pub whole : out ≡ cond damaged unsettled (Ok (settled l moved))
  pub words : after ≡ cond damaged before (words_left l before)
