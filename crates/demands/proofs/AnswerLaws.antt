-- What a ready card answers, and which events are then live, in the plain queue's words: for FindMin, and for the finish of
-- whatever request waits. Assumes nothing.
use Prim.Native.Nat.{ℕ, suc, ◌≤◌}
use mathlib.Core.Bool.{true, false}
use mathlib.Core.List.Memᴰ
use mathlib.Core.List.{List, [], ◌∷◌, map, map-append, Memᴰ}
use mathlib.Core.Option.{some}
use mathlib.Core.Path.{◌≡◌, refl, sym, ap, subst, ◌∙◌}
use native.Mathlib.Omega.{arith}
use lib.ListN.{length, length-map}
use Rattle.std.specs.Prelude.{Some}
use Rattle.record.specs.declared.Record.{Record}
use Rattle.record.specs.declared.Rule.{Rule}
use Rattle.record.specs.Standing.{is_dummy, is_proper}
use Rattle.record.specs.Order.{smallest, smallest_by}
use Rattle.record.proofs.ManyLaws.{every-each}
use Rattle.clearing.specs.Removal.{named, found}
use Rattle.clearing.proofs.RemovalLaws.{member-found}
use Rattle.parts.specs.Parts.{rule_of}
use Rattle.copies.specs.Copy.{fetched}
use Rattle.card.specs.declared.Card.{Card}
use Rattle.request.specs.declared.Request.{Request}
use Rattle.request.specs.declared.Request.TheVariants.{Insert, Extract, Delete}
use Rattle.refusal.specs.Refusal.{first_given}
use Rattle.card.specs.Tables.{parts_of, request_table}
use Rattle.card.specs.Calls.{list_of}
use Rattle.card.specs.Finish.{left_by, finished_by}
use Rattle.card.proofs.BeginLaws.{extractable}
use Rattle.good.specs.Live.{without, Ascending}
use Rattle.good.proofs.PickLaws.{is-named}
use Rattle.good.proofs.FewLaws.{least-live}
use Rattle.good.proofs.LowLaws.{live-real}
use Rattle.served.specs.Ready.{Ready}
use Rattle.served.specs.LiveAfter.{live_after}
use Rattle.served.proofs.CallLaws.{ready-least, waiting-taken}
use Rattle.served.proofs.FinishLaws.{delete-found}
use Rattle.demands.specs.Queue.{Queue, least_event, without_this, next, reply, told, was_found}
use Rattle.demands.specs.Says.{event_of, asks, says}
use Rattle.demands.specs.Refusals.{record_told, parts_told}
use Rattle.demands.proofs.QueueLaws.{least-smallest, has-found, taken_out_lem}

-- the queue of these records
abbrev pub queue_of : List Record → ℕ → Queue
queue_of live t = record { events = map event_of live; taken = t }

least-of : (rule : Rule) (live : List Record) → ((y : Record) → Memᴰ y live → is_proper rule y ≡ true)
    → Ascending live → (m : Record) → Memᴰ m live → least_event (map event_of live) ≡ some (event_of (smallest rule live))
least-of rule [] k a m i = absurd (Memᴰ.not-nil i)
least-of rule (x ∷ xs) k a m i = least-smallest rule x xs k a

module _ (k : Card) (tree : List ℕ) (live : List Record) (r : Ready k tree live) where
  known : (y : Record) → Memᴰ y live → is_proper (rule_of (parts_of k)) y ≡ true
  known y i = every-each (is_proper (rule_of (parts_of k))) r.heap.good.proper i

  real : (y : Record) → Memᴰ y live → is_dummy y ≡ false
  real = live-real k.sizes (rule_of (parts_of k)) _ live r.heap.good

  module _ (some-live : 1 ≤ k.c) where
    in-live : Memᴰ k.least live
    in-live = least-live (parts_of k) k.root tree live r.heap some-live

    -- the root's least record is the first of the least keys
    pub least-told : least_event (map event_of live) ≡ some (event_of k.least)
    least-told =
        rw (ready-least k tree live r) (least-of (rule_of (parts_of k)) live known r.heap.order k.least in-live)

    least-found : found (named k.least.label k.least.stamp) live ≡ true
    least-found =
        member-found (named k.least.label k.least.stamp) in-live
        (is-named k.least.label k.least.stamp k.least (real k.least in-live) refl refl)

    -- and without it the queue goes on
    least-goes : without_this (queue_of live k.t) (least_event (map event_of live)) ≡ map event_of (without k.least.stamp live)
    least-goes =
        rw (least-told, taken_out_lem k.least.label k.least.stamp live real r.heap.order, least-found)

  -- the parts of the card are those that the queue tells
  least-of-live : (es : List Record) → live ≡ es → k.least ≡ record_told (least_event (map event_of live))
  unfolding smallest_by least_event
  least-of-live [] e = ready-least k tree live r ∙ rw e
  least-of-live (x ∷ xs) e = rw (least-told (omega (arith, r.heap.count, ap length e)))

  pub parts-told : parts_of k ≡ parts_told k.sizes (queue_of live k.t)
  parts-told =
      let count = r.heap.count ∙ sym (length-map live event_of) in
      let least = least-of-live live refl in
      λ i. record { sizes = k.sizes; t = k.t; c = count i; least = least i }

  -- the request that waits
  module _ (q : Request) (busy : k.waiting ≡ Some q) where
    -- ExtractMin waits only while events are live
    live-extract : q ≡ Extract → 1 ≤ k.c
    live-extract e = omega (arith, (extractable k (subst (λ (a : Request). first_given (request_table k a) ≡ 0) e (waiting-taken k tree live q r busy))).some)

    events-after : (a : Request) → q ≡ a → map event_of (live_after (parts_of k) live a) ≡ (next (queue_of live k.t) (asks a)).events
    unfolding live_after
    events-after (Insert key value label first second) e = map-append event_of live _
    events-after Extract e = sym (rw (← ready-least k tree live r) (least-goes (live-extract e)))
    events-after (Delete label stamp) e = sym (taken_out_lem label stamp live real r.heap.order)

    -- the queue's events and count after it
    pub next-events : map event_of (live_after (parts_of k) live q) ≡ (next (queue_of live k.t) (asks q)).events
    next-events = events-after q refl

    module _ (words : List ℕ) where
      abbrev shown : Request → List ℕ
      shown a = fetched k.sizes.z tree (list_of k a) words

      says_so : (a : Request) → q ≡ a → says (finished_by k a (left_by k a (shown a))).answer ≡ reply (queue_of live k.t) (asks a)
      unfolding finished_by left_by list_of
      says_so (Insert key value label first second) e = refl
      says_so Extract e = ap told (sym (least-told (live-extract e)))
      says_so (Delete label stamp) e =
          ap was_found (delete-found k tree words live r label stamp (busy ∙ ap Some e) ∙ sym (has-found label stamp live real))

      -- a finish answers as the queue
      pub finish-says : says (finished_by k q (left_by k q (shown q))).answer ≡ reply (queue_of live k.t) (asks q)
      finish-says = says_so q refl

pub next-taken : (t : ℕ) (live : List Record) (q : Request) → suc t ≡ (next (queue_of live t) (asks q)).taken
next-taken t live (Insert key value label first second) = refl
next-taken t live Extract = refl
next-taken t live (Delete label stamp) = refl
