-- A round on a ready card and its tree gives the number that the request's own rules give, and no other: neither 11 nor 12, nor 2, 3 or 13.
-- Assumes nothing.
use Prim.Native.Nat.{ℕ, zero, suc, ◌+◌, ◌*◌, ◌≤◌}
use mathlib.Core.Bool.{true, false}
use mathlib.Core.List.{List}
use mathlib.Core.Path.{◌≡◌, refl, sym, ◌∙◌, ap}
use native.Mathlib.Omega.{arith}
use native.Mathlib.Nat.{mul-le-mul_right}
use lib.ListN.{length}
use borrow.Author.Tests.{ne_eqb, le-leb}
use Rattle.std.specs.Prelude.{Some}
use Rattle.record.specs.declared.Record.{Record}
use Rattle.path.specs.declared.sizes.Sizes.{Sizes}
use Rattle.path.specs.Layout.{bucket_words}
use Rattle.lists.specs.BucketList.{BucketList, counts, laid}
use Rattle.lists.proofs.ListLaws.{length-numbers}
use Rattle.path.proofs.SizesLaws.{in-range}
use Rattle.refusal.specs.Refusal.{first_given, or_else}
use Rattle.answers.specs.Answers.{number_of}
use Rattle.request.specs.declared.Request.{Request}
use Rattle.request.specs.declared.job.Job.{Job}
use Rattle.request.specs.Tables.{waits}
use Rattle.request.specs.Job.{job_of}
use Rattle.request.proofs.RequestLaws.{request-rows}
use Rattle.listing.specs.Listing.{list_for, words_asked}
use Rattle.card.specs.declared.Card.{Card}
use Rattle.card.specs.Tables.{parts_of, request_table}
use Rattle.card.specs.Calls.{with_waiting, list_of, begin_table}
use Rattle.card.specs.Answers.{or_refused}
use Rattle.card.specs.Finish.{words_needed, finished_by}
use Rattle.card.proofs.CallLaws.{same-list}
use Rattle.card.proofs.FinishedLaws.{finished-number}
use Rattle.listing.proofs.ListingLaws.{counts-few}
use Rattle.card.proofs.BeginLaws.{request-refused, room-enough}
use Rattle.world.specs.World.{holding_list, unlisted, Outcome}
use Rattle.world.proofs.WorldLaws.{listing, begin-done, begin-refused}
use Rattle.rounds.specs.Round.{list_places, word_places, done_in, refusal_in, ending, begun, round_refusal, round_done, round_tree}
use Rattle.refusal.proofs.RefusalLaws.{or-first, or-second, first_of, left-done}
use Rattle.served.specs.Ready.{Ready}
use Rattle.served.specs.LiveAfter.{live_after}
use Rattle.served.proofs.CallLaws.{ready-card, begin-ready}
use Rattle.served.proofs.FinishedLaws.{WordKey, finish-ready}
use Rattle.served.proofs.EndLaws.{work_left, served_by, finish-ends}
use Rattle.honest.specs.Seen.{own_number}

-- ---- 64 places and 888 words hold every list
product-few : (n b m : ℕ) → n ≤ 32 → b ≤ 24 → m ≤ 30 → n * b + m * 4 ≤ 888
product-few n b m l k j = omega (arith, mul-le-mul_right b l)

words-few : (s : Sizes) (j : Job) → (1 ≤ s.h) × (s.h ≤ 16) → s.z ≤ 5 → words_asked s j ≤ 888
words-few s j l m =
    let few = counts-few s.h j l in
    product-few (counts (list_for s.h j)).whole (bucket_words s.z) (counts (list_for s.h j)).least few.0 (omega arith) few.1

-- ---- the request's own rules
own-low : (n : ℕ) → 4 ≤ n → n ≤ 9 → own_number n ≡ true
own-low n l m = rw (ne_eqb n 0 (omega arith), le-leb 4 n l, le-leb n 10 (omega arith))

request-own : (k : Card) (r : Request) → own_number (first_given (request_table k r)) ≡ true
request-own k r =
    first_of {P = λ n. own_number n ≡ true} refl (request-rows (parts_of k) k.root (λ n. own_number n ≡ true) own-low (λ f e. refl) r)

-- ---- a round
module _
    (k : Card) (tree : List ℕ) (live : List Record) (r : Ready k tree live) (idle : waits k.waiting ≡ false) (w : Request)
    (word : WordKey w)
  where
    height : (1 ≤ k.sizes.h) × (k.sizes.h ≤ 16)
    height = (in-range k.sizes r.heap.sizes).tree.height

    slots : (1 ≤ k.sizes.z) × (k.sizes.z ≤ 5)
    slots = (in-range k.sizes r.heap.sizes).tree.slots

    -- the card on which the request waits
    abbrev waiting : Card
    waiting = with_waiting k (Some w)

    few : words_needed k w ≤ length word_places
    few = words-few k.sizes (job_of (parts_of k) w) height slots.1

    module _ (none : first_given (request_table k w) ≡ 0) where
      begins : first_given (begin_table k w (length list_places)) ≡ 0
      begins =
          let n = counts-few k.sizes.h (job_of (parts_of k) w) height in
          let places : length list_places ≡ 64 = refl in
          room-enough k w (length list_places) (ready-card k tree live r) idle none
          (omega (arith, length-numbers (list_for k.sizes.h (job_of (parts_of k) w))))

      -- so begin, fetch, finish and store leave what a request leaves that is served
      pub round-ends : ending (begun k w tree).world ≡ served_by waiting tree w word_places
      round-ends =
          let same : listing (unlisted k tree) w list_places ≡ holding_list waiting tree (laid (list_of waiting w) list_places) (counts (list_of waiting w)) =
          ap (λ (l : BucketList). holding_list waiting tree (laid l list_places) (counts l)) (same-list k waiting w refl refl) in
          ap (λ (o : Outcome). ending o.world) (sym (begin-done (unlisted k tree) w list_places begins))
          ∙ ap ending same ∙ finish-ends waiting tree list_places live (begin-ready k tree live w r none) w refl word word_places few

      round-passes : round_refusal k w tree ≡ 0
      unfolding round_refusal
      round-passes =
          let first = ap (λ (o : Outcome). number_of o.answer) (sym (begin-done (unlisted k tree) w list_places begins)) in
          let then = ap refusal_in round-ends ∙ ap (λ (n : ℕ). or_else n 0) (finished-number waiting w _) in
          or-second _ _ first ∙ then

    either : (n : ℕ) → first_given (request_table k w) ≡ n → round_refusal k w tree ≡ first_given (request_table k w)
    unfolding round_refusal
    either zero e = round-passes e ∙ sym e
    either (suc n) e =
        let some' : first_given (request_table k w) ≡ 0 → ⊥ = λ z. let m : suc n ≡ 0 = sym e ∙ z in omega arith in
        let b = request-refused k w (length list_places) (ready-card k tree live r) idle some' in
        let given = ap (λ (o : Outcome). number_of o.answer) (sym (begin-refused (unlisted k tree) w list_places (λ z. some' (sym b ∙ z)))) in
        or-first _ _ (λ z. some' (sym b ∙ sym given ∙ z)) ∙ given ∙ b

    -- the first of the request's own refusals, or none
    pub round_number : round_refusal k w tree ≡ first_given (request_table k w)
    round_number = either (first_given (request_table k w)) refl

    pub round-own : own_number (round_refusal k w tree) ≡ true
    round-own = rw round_number (request-own k w)

    -- a round that is not refused hands back what its finish worked out
    module _ (none : first_given (request_table k w) ≡ 0) where
      pub round-done : round_done k w tree ≡ finished_by waiting w (work_left waiting tree w word_places)
      unfolding round_done or_refused finished_by
      round-done = rw (round-passes none) (ap done_in (round-ends none))

      round-tree : round_tree k w tree ≡ (served_by waiting tree w word_places).world.tree
      unfolding round_refusal round_tree
      round-tree = left-done _ _ _ (round-passes none) ∙ ap (λ (o : Outcome). o.world.tree) (round-ends none)

      -- and leaves card and tree ready, with the events that are then live
      pub round-ready : Ready (round_done k w tree).card (round_tree k w tree) (live_after (parts_of k) live w)
      unfolding finished_by
      round-ready =
          rw (round-done, round-tree) (finish-ready waiting tree word_places live (begin-ready k tree live w r none) w refl word)
