-- One request on a world that holds, begun and finished: what the rack sees of it, and what it leaves. Assumes nothing.
use Prim.Native.Nat.{ℕ, ◌<◌, ◌≤◌}
use mathlib.Core.Bool.{true, false, true≢false}
use mathlib.Core.List.Memᴰ
use mathlib.Core.List.{List, [], Memᴰ}
use mathlib.Core.Logic.{inl, inr}
use mathlib.Core.Option.{some}
use mathlib.Core.Path.{◌≡◌, refl, sym, ap, ◌∙◌, subst}
use mathlib.Mathlib.Data.Bool.Basic.{dichotomy}
use native.Mathlib.Omega.{arith}
use lib.Dec.{eqb}
use lib.ListN.{length, length-map}
use borrow.Author.Tests.{eqb-true, eqb-false, ne_eqb, le-ltb}
use Rattle.std.specs.Prelude.{None, Some}
use Rattle.record.specs.Standing.{is_proper}
use Rattle.record.proofs.StandingLaws.{proper-true, known-below}
use Rattle.record.proofs.ManyLaws.{every-each}
use Rattle.path.specs.declared.sizes.Sizes.{Sizes}
use Rattle.lists.specs.BucketList.{no_buckets}
use Rattle.refusal.specs.Refusal.{first_given}
use Rattle.refusal.proofs.RefusalLaws.{none-given}
use Rattle.parts.specs.Parts.{rule_of}
use Rattle.rack.proofs.ListedLaws.{listed-laid}
use Rattle.request.specs.declared.Request.{Request}
use Rattle.request.specs.Job.{job_of}
use Rattle.answers.specs.declared.Answer.{Answer}
use Rattle.answers.specs.declared.Answer.TheVariants.{Started, Listed, Least, Withdrawn, Inserted, Extracted, Deleted, Refused}
use Rattle.answers.specs.Answers.{number_of}
use Rattle.card.specs.Answers.{or_refused}
use Rattle.request.specs.Tables.{waits}
use Rattle.card.specs.Tables.{parts_of, request_table}
use Rattle.card.specs.BadCard.{bad_card}
use Rattle.listing.specs.Listing.{places_asked, words_asked}
use Rattle.checks.specs.Checks.{call_rows}
use Rattle.card.specs.Calls.{call_table, list_of, begin_table, begun as begun_done, min_table, found_min}
use Rattle.card.proofs.AnswerLaws.{number-given}
use Rattle.card.proofs.BeginLaws.{accepted, request-refused, room-enough}
use Rattle.served.proofs.CallLaws.{ready-card}
use Rattle.demands.specs.Queue.{Event, Queue, least_event, next, reply}
use Rattle.world.specs.World.{World, Asked, Call, begin, finish, find_min, Outcome, held, after_begin, step}
use Rattle.demands.specs.Says.{event_of, asks, says}
use Rattle.demands.specs.Refusals.{parts_told}
use Rattle.demands.proofs.AnswerLaws.{least-told}
use Rattle.demands.proofs.StepLaws.{Holds, Plays}
use Rattle.demands.proofs.Demand2.{plays}
use Rattle.demands.proofs.RoundLaws.{passed, allowed}
use Rattle.deals.specs.Trace.{stored_back, number_given, seen, asked_for}
use Rattle.deals.specs.Sequences.{well}

-- an answer that is well is no refusal
well-numbered : (a : Answer) → well a ≡ true → number_of a ≡ 0
well-numbered Started e = refl
well-numbered (Listed n) e = refl
well-numbered (Least r words) e = refl
well-numbered Withdrawn e = refl
well-numbered (Inserted label stamp words) e = refl
well-numbered (Extracted r words) e = refl
well-numbered (Deleted found words) e = refl
well-numbered (Refused n) e = absurd (true≢false (sym e))

pub passes-well : (u : World) (c : Call) → well (step u c).answer ≡ true → number_given (step u c) ≡ 0
passes-well u c e = well-numbered (step u c).answer e

-- ---- a begin
module _ (u : World) {w : Request} (asked : Asked w) (places : List ℕ) where
  abbrev n : ℕ
  n = first_given (begin_table u.card w (length places))

  begin-number : number_given (step u (begin asked places)) ≡ n
  unfolding step after_begin
  begin-number = number-given u.card n (begun_done u.card w) refl

  module _ (e : number_given (step u (begin asked places)) ≡ 0) where
    passes : n ≡ 0
    passes = sym begin-number ∙ e

    -- the list that is then held
    begin-held : held (step u (begin asked places)).world ≡ list_of u.card w
    unfolding step after_begin
    begin-held = rw passes (listed-laid (list_of u.card w) places)

    begin-seen : seen u (begin asked places) ≡ asked_for (list_of u.card w)
    unfolding seen
    begin-seen = rw e (ap asked_for begin-held)

    begin-well : well (step u (begin asked places)).answer ≡ true
    unfolding step after_begin or_refused
    begin-well = rw passes

-- ---- a finish
module _ (v : World) (words : List ℕ) (e : number_given (step v (finish words)) ≡ 0) where
  finish-seen : seen v (finish words) ≡ stored_back (held v)
  unfolding seen
  finish-seen = rw e

-- ---- what holds between two requests
abbrev pub Idle : Sizes → World → Queue → Type 0
Idle s u q = Holds s u None q

module _ (s : Sizes) (u : World) (q : Queue) (i : Idle s u q) where
  pub idle-waits : waits u.card.waiting ≡ false
  unfolding waits
  idle-waits = rw i.stands.waiting

  pub idle-fine : bad_card u.card ≡ false
  idle-fine = ready-card u.card u.tree i.stands.live i.stands.ready

  -- "the count c of live events"
  pub idle-count : u.card.c ≡ length q.events
  idle-count =
      i.stands.ready.heap.count ∙ sym (length-map i.stands.live event_of)
      ∙ ap (λ (es : List Event). length es) i.stands.events

  -- the root's least record is the queue's least
  pub idle-least : 1 ≤ u.card.c → least_event q.events ≡ some (event_of u.card.least)
  idle-least some-live =
      ap least_event (sym i.stands.events)
      ∙ least-told u.card u.tree i.stands.live i.stands.ready some-live

  -- live events have stamps below the count of finished requests
  pub idle-known : (e : Event) → Memᴰ e q.events → e.ref.stamp < u.card.t
  idle-known e m =
      let stands = i.stands in
      let (y, inside, is) = Memᴰ.of_map event_of stands.live (subst (Memᴰ e) (sym stands.events) m) in
      let rule = rule_of (parts_of u.card) in
      let proper = proper-true rule y (every-each (is_proper rule) stands.ready.heap.good.proper inside) in
      omega (arith, known-below rule y.stamp proper.stamp, ap (λ (e : Event). e.ref.stamp) is)

  -- a begin with room for its list is refused for its request alone
  pub idle-begin : {w : Request} (asked : Asked w) (places : List ℕ)
      → places_asked s.h (job_of (parts_of u.card) w) ≤ length places
      → number_given (step u (begin asked places)) ≡ first_given (request_table u.card w)
  idle-begin {w} asked places room =
      let m = first_given (request_table u.card w) in
      let own = subst (λ (z : Sizes). places_asked z.h (job_of (parts_of u.card) w) ≤ length places) (sym i.stands.sizes) room in
      begin-number u asked places ∙ elim (dichotomy (eqb m 0)) [
        | inl f ↦ request-refused u.card w (length places) idle-fine idle-waits (eqb-false m 0 f)
        | inr t ↦ room-enough u.card w (length places) idle-fine idle-waits (eqb-true m 0 t) own ∙ sym (eqb-true m 0 t)
      ]

-- ---- FindMin
module _ (u : World) where
  abbrev m : ℕ
  m = first_given (min_table u.card)

  look-number : number_given (step u find_min) ≡ m
  unfolding step
  look-number = number-given u.card m (found_min u.card) refl

  pub look-well : number_given (step u find_min) ≡ 0 → well (step u find_min).answer ≡ true
  unfolding step or_refused
  look-well e = rw (sym look-number ∙ e)

  pub look-seen : seen u find_min ≡ asked_for no_buckets
  unfolding seen
  look-seen = refl

  -- "it checks 13, 2 and 8 only"
  pub look-some : number_given (step u find_min) ≡ 0 → u.card.c ≡ 0 → ⊥
  unfolding call_table call_rows
  look-some e =
      let a = none-given 13 (bad_card u.card) _ (omega arith) (sym look-number ∙ e) in
      let b = none-given 2 (waits u.card.waiting) _ (omega arith) a.1 in
      let d = none-given 8 (eqb u.card.c 0) [] (omega arith) b.1 in
      eqb-false u.card.c 0 d.0

  module _ (s : Sizes) (q : Queue) (i : Idle s u q) where
    pub look-passes : (u.card.c ≡ 0 → ⊥) → number_given (step u find_min) ≡ 0
    unfolding call_table call_rows first_given
    look-passes h = look-number ∙ rw (idle-fine s u q i, idle-waits s u q i, ne_eqb u.card.c 0 h)

    pub look-idle : number_given (step u find_min) ≡ 0 → Idle s (step u find_min).world q
    look-idle e = (passed (plays s u None q i find_min) e).holds

-- ---- a request, begun and finished
abbrev pub begun_by : World → {w : Request} → Asked w → List ℕ → World
begun_by u asked places = (step u (begin asked places)).world

abbrev pub done_by : World → {w : Request} → Asked w → (places words : List ℕ) → Outcome
done_by u asked places words = step (begun_by u asked places) (finish words)

module _ (s : Sizes) (u : World) (q : Queue) {w : Request} (asked : Asked w) (places words : List ℕ) where
  abbrev begun : World
  begun = begun_by u asked places

  abbrev done : Outcome
  done = done_by u asked places words

  pub record Round : Type 0 where
    pub before : Idle s u q
    -- neither is refused
    pub request : first_given (request_table u.card w) ≡ 0
    pub begins : well (step u (begin asked places)).answer ≡ true
    pub numbered : number_given done ≡ 0
    -- what the rack sees
    pub first : seen u (begin asked places) ≡ asked_for (list_of u.card w)
    pub second : seen begun (finish words) ≡ stored_back (list_of u.card w)
    -- what is answered and left
    pub said : says done.answer ≡ reply q (asks w)
    pub after : Idle s done.world (next q (asks w))

  module _ (i : Idle s u q) (b : number_given (step u (begin asked places)) ≡ 0) where
    -- its request is then pending
    abbrev begun-holds : Holds s begun (Some w) q
    begun-holds = (passed (plays s u None q i (begin asked places)) b).holds

    ending : Plays s begun (Some w) q (finish words) done
    ending = plays s begun (Some w) q begun-holds (finish words)

    pub round : number_given done ≡ 0 → Round
    round f =
        let answered = passed ending f in
        record {
          before = i;
          request = (accepted u.card w (length places) (sym (begin-number u asked places) ∙ b)).request;
          begins = begin-well u asked places b;
          numbered = f;
          first = begin-seen u asked places b;
          second = finish-seen begun words f ∙ ap stored_back (begin-held u asked places b);
          said = answered.answers.same;
          after = answered.holds;
        }

    -- with words enough it is finished
    pub round-passes : words_asked s (job_of (parts_told s q) w) ≤ length words → Round
    unfolding call_rows first_given waits
    round-passes lent = round (allowed ending (rw (le-ltb _ _ lent))).answers.passes
