-- The work of ExtractMin and Delete on their path: document 01, "ExtractMin replaces the root's least record, wherever it is
-- on the path, by the dummy; Delete does so with the record that has this label and stamp, or answers Absent and removes
-- nothing. Then the path is evicted." Assumes nothing.
use Rattle.std.specs.Prelude.{ℕ, Bool, List, ◌++◌, ◌≡◌, drop}
use Rattle.record.specs.declared.Leaf.{Leaf}
use Rattle.record.specs.declared.Record.{Record}
use Rattle.record.specs.declared.Rule.{Rule}
use Rattle.path.specs.declared.sizes.Sizes.{Sizes}
use Rattle.path.specs.Layout.{Contents}
use Rattle.least.specs.Least.{root_slots}
use Rattle.clearing.specs.Removal.{found, removed}
use Rattle.mend.specs.Mended.{path_words, beside_at}
use Rattle.work.specs.declared.removal.Removed.{Removed}
use Rattle.work.specs.PathWork.{evicted, path_buckets, least_after}

-- the record that passes is replaced by the dummy, or none is, and the path is evicted
module _ (s : Sizes) (q : Leaf) (f : Record → Bool) (way : List Record) where
  abbrev pub removal_after : List Record
  removal_after = evicted s q (removed f way)

  abbrev pub removal_root : List Record
  removal_root = root_slots s.r removal_after

-- then its least records are worked out: `sibs` are the siblings' from level 1 on
module _ (rule : Rule) (s : Sizes) (q : Leaf) (f : Record → Bool) (sibs way : List Record) where
  abbrev pub removal_buckets : List Contents
  removal_buckets = path_buckets rule s q (beside_at sibs) (removal_after s q f way)

  abbrev pub removal_least : Record
  removal_least = least_after rule s q (beside_at sibs) (removal_after s q f way)

-- the card's root of 64 places, its first R replaced
abbrev pub rooted : ℕ → List Record → List Record → List Record
rooted r slots root = slots ++ drop r root

pub record PathRemoved
    (rule : Rule) (s : Sizes) (q : Leaf) (f : Record → Bool) (sibs way slots : List Record) (path : List ℕ) (out : Removed) : Type 0 where
  pub finds : out.found ≡ found f way
  pub root : out.root ≡ rooted s.r (removal_root s q f way) slots
  pub least : out.least ≡ removal_least rule s q f sibs way
  pub buckets : path ≡ path_words (removal_buckets rule s q f sibs way)
