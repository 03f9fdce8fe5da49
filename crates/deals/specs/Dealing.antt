-- The dealing: the k-th event to leave in the second sequence gets the label of the k-th to leave in the first. Events leave as the
-- plain queue lets them, and those that stay to the end come last, in the order of insertion. Assumes nothing.
use Rattle.std.specs.Prelude.{ℕ, cond, List, [], ◌∷◌, ◌++◌, map, eqb}
use Rattle.std.proofs.Math.Option.{Option, none, some}
use Rattle.demands.specs.Queue.{Reference, Event, Queue, Operation, insert, find_min, extract_min, delete, nothing, empty_queue, least_event, next}
use Rattle.world.specs.World.{Call}
use Rattle.deals.specs.Sequences.{requests, blanks, labelled}

-- the event that a request takes out
abbrev pub ref_in : Option Event → List Reference
ref_in none = []
ref_in (some e) = e.ref ∷ []

abbrev pub gone : Queue → Operation → List Reference
gone q (insert key value label) = []
gone q find_min = []
gone q extract_min = ref_in (least_event q.events)
gone q (delete r) = r ∷ []
gone q nothing = []

abbrev pub refs : List Event → List Reference
refs es = map (λ e. e.ref) es

unfoldable pub leaving : Queue → List Operation → List Reference
leaving q [] = refs q.events
leaving q (r ∷ rs) = gone q r ++ leaving (next q r) rs

-- the labels of the first sequence and the stamps of the second, as they leave; a stamp is all that the second has to tell its
-- events by, for its labels are yet to be dealt
abbrev pub labels_leaving : List Call → List ℕ
labels_leaving cs = map (λ r. r.label) (leaving empty_queue (requests cs))

abbrev pub stamps_leaving : List Call → List ℕ
stamps_leaving ds = map (λ r. r.stamp) (leaving empty_queue (blanks ds))

-- the k-th value for the k-th name, and 0 for a number that is no name
unfoldable pub paired : List ℕ → List ℕ → ℕ → ℕ
paired [] vs x = 0
paired (n ∷ ns) [] x = 0
paired (n ∷ ns) (v ∷ vs) x = cond (eqb x n) v (paired ns vs x)

-- the label for the insertion with this stamp
unfoldable pub deal : List Call → List Call → ℕ → ℕ
deal cs ds = paired (stamps_leaving ds) (labels_leaving cs)

-- the second sequence with the labels of the first; its own, if any, are written over
abbrev pub dealt : List Call → List Call → List Call
dealt cs ds = labelled (deal cs ds) 0 ds
