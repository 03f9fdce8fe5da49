-- What the rack sees of a run: document 01, "The card touches the tree through its bucket list only. That list is therefore the
-- access trace". Assumes nothing.
use Rattle.std.specs.Prelude.{ℕ, suc, cond, List, [], ◌∷◌, eqb}
use Rattle.record.specs.declared.Bucket.{Bucket}
use Rattle.lists.specs.BucketList.{BucketList, no_buckets}
use Rattle.answers.specs.Answers.{number_of}
use Rattle.refusal.specs.Refusal.{afterwards}
use Rattle.world.specs.World.{World, Call, begin, finish, withdraw, find_min, Outcome, held, step}

-- Of one call: the list that is asked for, "how many are whole and how many are least-record only", and the buckets that the rack
-- "stores .. back, in list order". All are bucket numbers, in order.
pub record Seen : Type 0 where
  pub asked : BucketList
  pub stored : List Bucket

-- the list that a begin leaves with its counts, and the list that was held when a finish ended
abbrev pub asked_for : BucketList → Seen
asked_for l = record { asked = l; stored = [] }

abbrev pub stored_back : BucketList → Seen
stored_back l = record { asked = no_buckets; stored = l.whole }

abbrev pub number_given : Outcome → ℕ
number_given o = number_of o.answer

-- a call that is refused shows nothing, and "FindMin answers .. with an empty list"
unfoldable pub seen : World → Call → Seen
seen u (begin asked places) = asked_for (afterwards (number_given (step u (begin asked places))) (held (step u (begin asked places)).world) no_buckets)
seen u (finish words) = stored_back (afterwards (number_given (step u (finish words))) (held u) no_buckets)
seen u withdraw = asked_for no_buckets
seen u find_min = asked_for no_buckets

-- of all calls, one after the other
unfoldable pub trace : World → List Call → List Seen
trace u [] = []
trace u (c ∷ cs) = seen u c ∷ trace (step u c).world cs

-- how many calls there are before the first Overflow
unfoldable pub until_overflow : World → List Call → ℕ
until_overflow u [] = 0
until_overflow u (c ∷ cs) = cond (eqb (number_given (step u c)) 10) 0 (suc (until_overflow (step u c).world cs))
