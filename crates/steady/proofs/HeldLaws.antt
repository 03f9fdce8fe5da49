-- A desk that holds a queue: a round on its card, `min`, and the tree's words at the head of what is lent. Assumes nothing.
use Prim.Native.Nat.{ℕ}
use mathlib.Core.Bool.{true, false}
use mathlib.Core.List.{List, ◌++◌}
use mathlib.Core.Path.{◌≡◌, refl, sym, ap, ◌∙◌}
use native.Mathlib.Omega.{arith}
use lib.ListN.{length, length-append, take-append-drop}
use lib.Seq.{take_at}
use Rattle.std.specs.Prelude.{Some}
use Rattle.path.specs.Sizes.{in_range}
use Rattle.path.specs.Layout.{tree_words}
use Rattle.path.proofs.SizesLaws.{tree-range}
use Rattle.refusal.specs.Refusal.{first_given}
use Rattle.settle.specs.Left.{Left}
use Rattle.card.specs.declared.Card.{Card}
use Rattle.card.specs.declared.Done.{Done}
use Rattle.answers.specs.declared.Answer.TheVariants.{Refused}
use Rattle.request.specs.declared.Request.{Request}
use Rattle.request.specs.Tables.{waits}
use Rattle.card.specs.Tables.{parts_of, request_table}
use Rattle.card.specs.Calls.{with_waiting}
use Rattle.answers.specs.Answers.{number_of}
use Rattle.card.specs.Answers.{refused}
use Rattle.card.specs.Finish.{card_left, finished_by}
use Rattle.served.specs.Ready.{Ready}
use Rattle.served.specs.LiveAfter.{live_after}
use Rattle.served.proofs.CallLaws.{begin-ready}
use Rattle.served.proofs.FinishedLaws.{WordKey}
use Rattle.served.proofs.EndLaws.{work_left}
use Rattle.card.proofs.FinishedLaws.{finished-number}
use Rattle.rounds.specs.Round.{word_places, round_refusal, round_done, round_tree}
use Rattle.rounds.proofs.RoundLaws.{refused-round}
use Rattle.honest.proofs.RoundLaws.{round_number, round-done, round-ready}
use Rattle.demands.specs.Queue.{Queue, reply, next}
use Rattle.demands.specs.Says.{asks, says}
use Rattle.demands.proofs.AnswerLaws.{queue_of, finish-says, next-events, next-taken}
use Rattle.steps.specs.Step.{Desk, tree_words_used, used_of, tells, kept, head, rest, played}
use Rattle.steady.specs.Steady.{Holds}

-- the words of a tree that stands at the head of what is lent
pub own-head : (k : Card) (tree rest : List ℕ) → in_range k.sizes ≡ true
    → length tree ≡ tree_words k.sizes.h k.sizes.z → head k (tree ++ rest) ≡ tree
unfolding tree_words_used
own-head k tree rest e n =
    let range = tree-range k.sizes e in
    let used : used_of k.sizes.h k.sizes.z (length (tree ++ rest)) ≡ length tree =
    rw (range, length-append tree rest, ← n) (omega arith) in
    rw used (take_at tree rest (length tree) refl)

-- a card whose finish is done waits for nothing
left-idle : (k : Card) (l : Left) → waits (card_left k l).waiting ≡ false
unfolding waits
left-idle k l = refl

module _ (desk : Desk) (tree : List ℕ) (q : Queue) (h : Holds desk tree q) where
  abbrev k : Card
  k = h.card

  pub own-queue : queue_of h.live k.t ≡ q
  own-queue = λ i. record { events = h.events i; taken = h.taken i }

  module _ (w : Request) (word : WordKey w) where
    abbrev number : ℕ
    number = first_given (request_table k w)

    abbrev out : Done
    out = round_done k w (head k tree)

    abbrev after : List ℕ
    after = round_tree k w (head k tree)

    round_is : round_refusal k w (head k tree) ≡ number
    round_is = round_number k (head k tree) h.live h.ready h.idle w word

    -- ---- refused
    module _ (Some-number : number ≡ 0 → ⊥) where
      kept-round : (out ≡ refused k (round_refusal k w (head k tree))) × (after ≡ head k tree)
      kept-round = refused-round k w (head k tree) (λ z. Some-number (sym round_is ∙ z))

      refused-done : out ≡ refused k number
      refused-done = kept-round.0 ∙ ap (refused k) round_is

      pub round-refused : played k tree w ≡ record { turn = kept desk (Refused number); tree = tree }
      round-refused =
          let turn : tells out ≡ kept desk (Refused number) = ap tells refused-done ∙ ap (λ (d : Desk). kept d (Refused number)) (sym h.sized) in
          let whole : after ++ rest k tree ≡ tree = rw (kept-round.1, take-append-drop) in
          λ i. record { turn = turn i; tree = whole i }

    -- ---- answered
    module _ (none : number ≡ 0) where
      abbrev waiting : Card
      waiting = with_waiting k (Some w)

      ready : Ready waiting (head k tree) h.live
      ready = begin-ready k (head k tree) h.live w h.ready none

      abbrev left : Left
      left = work_left waiting (head k tree) w word_places

      finished-done : out ≡ finished_by waiting w left
      finished-done = round-done k (head k tree) h.live h.ready h.idle w word none

      card-left : out.card ≡ card_left waiting left
      unfolding finished_by
      card-left = ap (λ (d : Done). d.card) finished-done

      pub round-sizes : out.card.sizes ≡ k.sizes
      round-sizes = ap (λ (c : Card). c.sizes) card-left

      pub round-says : says out.answer ≡ reply q (asks w)
      round-says =
          ap (λ (d : Done). says d.answer) finished-done ∙ finish-says waiting (head k tree) h.live ready w refl word_places
          ∙ ap (λ (p : Queue). reply p (asks w)) own-queue

      pub round-numbered : number_of out.answer ≡ 0
      round-numbered =
          ap (λ (d : Done). number_of d.answer) finished-done ∙ finished-number waiting w _

      again : Ready out.card after (live_after (parts_of k) h.live w)
      again = round-ready k (head k tree) h.live h.ready h.idle w word none

      pub round-holds : Holds (Some out.card) (after ++ rest k tree) (next q (asks w))
      round-holds =
          record {
            card = out.card;
            sized = refl;
            live = live_after (parts_of k) h.live w;
            ready = rw (own-head out.card after (rest k tree) again.heap.sizes again.heap.words) again;
            idle = rw card-left (left-idle waiting left);
            events = next-events waiting (head k tree) h.live ready w refl ∙ ap (λ (p : Queue). (next p (asks w)).events) own-queue;
            taken =
                ap (λ (c : Card). c.t) card-left ∙ next-taken k.t h.live w
                ∙ ap (λ (p : Queue). (next p (asks w)).taken) own-queue;
          }
