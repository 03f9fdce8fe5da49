-- When a call is refused, told by the sizes, the pending request and the plain queue: document 01, "Refusal numbers", without 12
-- and 13. The rows are those of checks/specs/Checks.antt, on the parts that the queue tells of a card. Assumes nothing.
use Rattle.std.specs.Prelude.{ℕ, false, List, length, Option}
use Rattle.std.proofs.Math.Option.{Option as Maybe, none, some}
use Rattle.record.specs.declared.Record.{Record}
use Rattle.record.specs.Standing.{dummy}
use Rattle.record.specs.Words.{record4}
use Rattle.path.specs.declared.sizes.Sizes.{Sizes}
use Rattle.refusal.specs.Refusal.{Refusal, first_given}
use Rattle.parts.specs.declared.Parts.{Parts}
use Rattle.checks.specs.declared.Call.{Call as CardCall}
use Rattle.checks.specs.declared.Call.TheVariants.{Min, Withdraw, Begin, Finish}
use Rattle.checks.specs.Checks.{call_rows}
use Rattle.demands.specs.Queue.{Event, Queue, least_event}
use Rattle.world.specs.World.{Call, begin, finish, withdraw, find_min}
use Rattle.request.specs.declared.Request.{Request}

-- the record of an event; the dummy for none
abbrev pub record_told : Maybe Event → Record
record_told none = dummy
record_told (some e) = record4 e.key e.value e.ref.label e.ref.stamp

-- a card's parts: "the count t of finished requests, the count c of live events", and the least of these
abbrev pub parts_told : Sizes → Queue → Parts
parts_told s q = record { sizes = s; t = q.taken; c = length q.events; least = record_told (least_event q.events) }

-- the call on the card
abbrev pub call_of : Call → CardCall
call_of (begin {r} asked places) = Begin r (length places)
call_of (finish words) = Finish (length words)
call_of withdraw = Withdraw
call_of find_min = Min

-- Of the card only the root's slots count, for "Insert, every root slot real".
module _ (s : Sizes) (root : List Record) (p : Option Request) (q : Queue) where
  abbrev pub refusals : Call → List Refusal
  refusals c = call_rows false (parts_told s q) root p (call_of c)

  -- the number that is given, 0 for none
  abbrev pub refusal_of : Call → ℕ
  refusal_of c = first_given (refusals c)
