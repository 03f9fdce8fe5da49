-- What was fetched for one path: document 01, "Finish takes the fetched words in list order." Assumes nothing.
use Rattle.std.specs.Prelude.{ℕ, ◌+◌, ◌*◌, ◌-◌, List, get_or}
use Rattle.record.specs.declared.Leaf.{Leaf}
use Rattle.record.specs.declared.Record.{Record}
use Rattle.record.specs.Standing.{dummy}
use Rattle.record.specs.Words.{records}
use Rattle.path.specs.Layout.{Contents}
use Rattle.gather.specs.Shown.{whole_at, sibling_at}

-- what was fetched for one path: its leaf, its bucket at each level, and the least record of the sibling there
pub record Fetched : Type 0 where
  pub leaf : Leaf
  pub shown : ℕ → Contents
  pub beside : ℕ → Record

-- as it stands in all fetched words: the path's buckets from the i-th on, and its siblings, fetched from level `from` on,
-- behind n whole buckets and k siblings
abbrev pub fetched_from : ℕ → Leaf → List ℕ → (i n k from : ℕ) → Fetched
fetched_from z leaf ws i n k from =
    record { leaf = leaf; shown = λ d. whole_at z ws (i + (d - 1)); beside = λ d. sibling_at z ws n (k + (d - from)) }

-- one path; an Insert's first and second
abbrev pub path_fetched : ℕ → ℕ → Leaf → List ℕ → Fetched
path_fetched h z leaf ws = fetched_from z leaf ws 0 h 0 1

abbrev pub first_fetched : ℕ → ℕ → Leaf → List ℕ → Fetched
first_fetched h z leaf ws = fetched_from z leaf ws 0 (2 * h) 0 2

abbrev pub second_fetched : ℕ → ℕ → Leaf → List ℕ → Fetched
second_fetched h z leaf ws = fetched_from z leaf ws h (2 * h) (h - 1) 2

-- as the checks are lent it: a part with the path's h whole buckets, and a scratch where level d's sibling stands at place d - 1
abbrev pub shown_in : ℕ → List ℕ → ℕ → Contents
shown_in z path d = whole_at z path (d - 1)

abbrev pub beside_in : List ℕ → ℕ → Record
beside_in sibs d = get_or (records sibs) (d - 1) dummy

abbrev pub fetched_in : ℕ → Leaf → List ℕ → List ℕ → Fetched
fetched_in z leaf path sibs = record { leaf = leaf; shown = shown_in z path; beside = beside_in sibs }
