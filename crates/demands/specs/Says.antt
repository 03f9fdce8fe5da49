-- Card and plain queue in each other's words: what a call asks of the queue, and what an answer says. Assumes nothing.
use Rattle.std.specs.Prelude.{Option, None, Some}
use Rattle.std.proofs.Math.Option.{some}
use Rattle.record.specs.declared.Leaf.{Leaf}
use Rattle.record.specs.declared.Stamp.{Stamp}
use Rattle.record.specs.declared.Record.{Record}
use Rattle.request.specs.declared.Request.{Request}
use Rattle.request.specs.declared.Request.TheVariants.{Insert, Extract, Delete}
use Rattle.answers.specs.declared.Answer.{Answer}
use Rattle.answers.specs.declared.Answer.TheVariants.{Started, Listed, Least, Withdrawn, Inserted, Extracted, Deleted, Refused}
use Rattle.demands.specs.Queue.{Reference, Event, Operation, insert, extract_min, delete, nothing, find_min as find_least, Reply, referred, told, was_found, silent}
use Rattle.world.specs.World.{Call, begin, finish, withdraw, find_min}

abbrev pub ref_of : Leaf → Stamp → Reference
ref_of label stamp = record { label = label.0; stamp = stamp.0 }

abbrev pub event_of : Record → Event
event_of r = record { key = r.key; value = r.value; ref = ref_of r.label r.stamp }

-- what a request asks of the queue; its eviction leaves are nothing to the queue
abbrev pub asks : Request → Operation
asks (Insert key value label first second) = insert key value label.0
asks Extract = extract_min
asks (Delete label stamp) = delete (ref_of label stamp)

abbrev pub waiting_asks : Option Request → Operation
waiting_asks None = nothing
waiting_asks (Some r) = asks r

-- The pending request, told by the calls alone: the one that was begun and is neither finished nor withdrawn. What a call that is
-- answered makes of it.
abbrev pub pending_after : Option Request → Call → Option Request
pending_after p (begin {r} asked places) = Some r
pending_after p (finish words) = None
pending_after p withdraw = None
pending_after p find_min = p

-- what a call asks of the queue: a finish the pending request; a begin and a withdraw nothing
abbrev pub operation_of : Option Request → Call → Operation
operation_of p (begin asked places) = nothing
operation_of p (finish words) = waiting_asks p
operation_of p withdraw = nothing
operation_of p find_min = find_least

-- what an answer says, words moved and lists aside
abbrev pub says : Answer → Reply
says Started = silent
says (Listed n) = silent
says (Least r words) = told (some (event_of r))
says Withdrawn = silent
says (Inserted label stamp words) = referred (ref_of label stamp)
says (Extracted r words) = told (some (event_of r))
says (Deleted found words) = was_found found
says (Refused number) = silent
