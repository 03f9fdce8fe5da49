-- The plain queue: source document 000, section 2.1. A list of live events in the order of insertion, and nothing else but
-- a count of the requests taken; it knows no tree, no bucket and no leaf. Assumes nothing.
use Rattle.std.specs.Prelude.{ℕ, suc, Bool, false, cond, ◌&&◌, ◌||◌, List, [], ◌∷◌, ◌++◌, leb, eqb}
use Rattle.std.proofs.Math.Option.{Option, none, some}

-- "return a reference to the item": two numbers, only ever compared
pub record Reference : Type 0 where
  pub label : ℕ
  pub stamp : ℕ

pub record Event : Type 0 where
  pub key : ℕ
  pub value : ℕ
  pub ref : Reference

abbrev pub refers_to : Reference → Event → Bool
refers_to r e = eqb e.ref.label r.label && eqb e.ref.stamp r.stamp

-- the order of events: by key alone. It is the queue's own, written out and not taken from the card's records.
abbrev pub no_dearer : Event → Event → Bool
no_dearer a b = leb a.key b.key

-- the first of the least keys: of equal ones, the earlier in the list
abbrev pub sooner : Event → Option Event → Option Event
sooner x none = some x
sooner x (some y) = some (cond (no_dearer x y) x y)

unfoldable pub least_event : List Event → Option Event
least_event [] = none
least_event (x ∷ xs) = sooner x (least_event xs)

-- whether there is an event with this reference, and the list without it
unfoldable pub has : Reference → List Event → Bool
has r [] = false
has r (x ∷ xs) = refers_to r x || has r xs

unfoldable pub taken_out : Reference → List Event → List Event
taken_out r [] = []
taken_out r (x ∷ xs) = cond (refers_to r x) xs (x ∷ taken_out r xs)

pub record Queue : Type 0 where
  pub events : List Event
  pub taken : ℕ

abbrev pub empty_queue : Queue
empty_queue = record { events = []; taken = 0 }

-- what is asked of it; an Insert's caller supplies the label, the queue the stamp
pub data Operation : Type 0 where
  insert : (key value label : ℕ) → Operation
  find_min : Operation
  extract_min : Operation
  delete : Reference → Operation
  nothing : Operation

-- what it answers
pub data Reply : Type 0 where
  referred : Reference → Reply
  told : Option Event → Reply
  was_found : Bool → Reply
  silent : Reply

module _ (q : Queue) where
  abbrev pub new_event : ℕ → ℕ → ℕ → Event
  new_event key value label = record { key = key; value = value; ref = record { label = label; stamp = q.taken } }

  abbrev pub reply : Operation → Reply
  reply (insert key value label) = referred (new_event key value label).ref
  reply find_min = told (least_event q.events)
  reply extract_min = told (least_event q.events)
  reply (delete r) = was_found (has r q.events)
  reply nothing = silent

  abbrev pub without_this : Option Event → List Event
  without_this none = q.events
  without_this (some e) = taken_out e.ref q.events

  -- a request taken: "Every finished Insert, ExtractMin and Delete"; FindMin is none
  abbrev pub turned : List Event → Queue
  turned es = record { events = es; taken = suc q.taken }

  abbrev pub next : Operation → Queue
  next (insert key value label) = turned (q.events ++ (new_event key value label ∷ []))
  next find_min = q
  next extract_min = turned (without_this (least_event q.events))
  next (delete r) = turned (taken_out r q.events)
  next nothing = q
