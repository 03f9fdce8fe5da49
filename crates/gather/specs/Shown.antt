-- What the fetched words show: document 01, "Finish takes the fetched words in list order", whole buckets first, then
-- the siblings' least records. Assumes nothing.
use Rattle.std.specs.Prelude.{ℕ, zero, suc, ◌+◌, ◌*◌, List, [], ◌++◌, map, get_or, take, drop}
use Rattle.record.specs.declared.Record.{Record}
use Rattle.record.specs.Standing.{dummy}
use Rattle.record.specs.Words.{records}
use Rattle.path.specs.Path.{up_from}
use Rattle.path.specs.Layout.{Contents}

-- the i-th whole bucket
unfoldable pub whole_at : ℕ → List ℕ → ℕ → Contents
whole_at z ws i =
    record {
      least = get_or (records ws) (i * (z + 1)) dummy;
      slots = take z (drop (i * (z + 1) + 1) (records ws));
    }

-- the i-th sibling's least record, behind n whole buckets
unfoldable pub sibling_at : ℕ → List ℕ → ℕ → ℕ → Record
sibling_at z ws n i = get_or (records ws) (n * (z + 1) + i) dummy

-- k of them from the i-th on
unfoldable pub siblings_shown : ℕ → List ℕ → ℕ → ℕ → ℕ → List Record
siblings_shown z ws n i k = map (sibling_at z ws n) (up_from i k)

-- the slots of k whole buckets from the i-th on
unfoldable pub slots_shown : ℕ → List ℕ → ℕ → ℕ → List Record
slots_shown z ws i zero = []
slots_shown z ws i (suc k) = slots_shown z ws i k ++ (whole_at z ws (i + k)).slots

-- the way of a path whose h buckets stand from the i-th on: the root's slots from the card, the others from the words
unfoldable pub way_shown : ℕ → ℕ → ℕ → List Record → List ℕ → ℕ → List Record
way_shown h z r root ws i = take r root ++ slots_shown z ws i h
