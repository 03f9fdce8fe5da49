-- What a finish answers: refused at once, Damaged, or done. Assumes nothing.
use Prim.Native.Nat.{ℕ}
use mathlib.Core.Bool.{true, false, cond}
use mathlib.Core.List.{List, [], ◌∷◌}
use mathlib.Core.Path.{◌≡◌, refl, sym, ap, subst, ◌∙◌}
use native.Mathlib.Omega.{arith}
use lib.ListN.{length}
use Rattle.std.specs.Prelude.{Option, Some, Result, Ok, Err}
use Rattle.record.specs.Standing.{same}
use Rattle.refusal.specs.Refusal.{row, first_given, afterwards}
use Rattle.refusal.proofs.RefusalLaws.{or-first, or-second, left-before, left-done, first-append}
use Rattle.request.specs.declared.Request.{Request}
use Rattle.request.specs.declared.Request.TheVariants.{Insert, Extract, Delete}
use Rattle.request.specs.Job.{job_of}
use Rattle.settle.specs.declared.Damaged.{Damaged}
use Rattle.settle.specs.declared.Settled.{Settled}
use Rattle.settle.specs.Left.{Left, removal_damaged, words_left}
use Rattle.settle.specs.Settled.{settled}
use Rattle.settle.proofs.PreparedLaws.{settles-damaged, settles-done}
use Rattle.answers.specs.Answers.{number_of}
use Rattle.card.specs.declared.Card.{Card}
use Rattle.card.specs.declared.Done.{Done}
use Rattle.card.specs.Tables.{parts_of}
use Rattle.card.specs.Answers.{refused, or_refused, Answered}
use Rattle.card.specs.Calls.{list_of}
use Rattle.card.specs.Finish.{left_by, damaged_by, card_left, least_taken, entry_table, finish_table, moved_for, done_with, finished_by, finished_for, words_for, finished, Finishes}
use Rattle.card.proofs.PartsLaws.{SettlesOn}
use Rattle.card.proofs.AnswerLaws.{is-refused, is-done}
use Rattle.card.proofs.FinishLaws.{entry-numbered}
use Rattle.card.proofs.LastingLaws.{extracts-damaged, extracts-least, extracts-found}

-- a request is answered with no refusal
pub finished-number : (k : Card) (r : Request) (l : Left) → number_of (finished_by k r l).answer ≡ 0
unfolding finished_by
finished-number k (Insert key value label first second) l = refl
finished-number k Extract l = refl
finished-number k (Delete label stamp) l = refl

-- the card that comes out, and its answer
done-finished : (k : Card) (r : Request) (out : Settled) (l : Left) → out ≡ settled l (moved_for k r) → done_with k r out ≡ finished_by k r l
unfolding finished_by
done-finished k r out l e = rw e

-- where the entry passes, Damaged decides
at_entry : (k : Card) (ws : List ℕ) (r : Request) → k.waiting ≡ Some r → first_given (entry_table k (length ws)) ≡ 0
    → first_given (finish_table k ws) ≡ first_given (row 12 (damaged_by k r ws) ∷ [])
at_entry k ws r busy entry = first-append _ (entry-numbered k (length ws)) ∙ or-second _ _ entry ∙ rw busy

-- ---- an answer and the words afterwards are all of a finish: what an ExtractMin takes out follows
module _ (k : Card) (before after : List ℕ) (d : Done) (call : Answered k (first_given (finish_table k before)) (finished k before) d)
    (words : after ≡ afterwards (first_given (finish_table k before)) (words_for k k.waiting before) before) where
  module _ (long : length k.root ≡ 64) (busy : k.waiting ≡ Some Extract) where
    abbrev number : ℕ
    number = first_given (finish_table k before)

    gives : first_given (entry_table k (length before)) ≡ 0
        → number_of d.answer ≡ cond (removal_damaged (parts_of k) k.root before k.least.label (same k.least)) 12 0
    unfolding first_given
    gives entry = call.numbered ∙ at_entry k before Extract busy entry ∙ rw (extracts-damaged k before long busy entry)

    module _ (z : number_of d.answer ≡ 0) where
      passes : number ≡ 0
      passes = sym call.numbered ∙ z

      taken : left_by k Extract before ≡ least_taken k before
      taken = extracts-least k before passes long busy

      done : d ≡ finished_by k Extract (left_by k Extract before)
      unfolding or_refused
      done = call.whole ∙ left-done number _ _ passes ∙ ap (λ (w : Option Request). finished_for k w before) busy

      card-is : d.card ≡ card_left k (least_taken k before)
      unfolding finished_by
      card-is = ap (λ (x : Done). x.card) done ∙ ap (card_left k) taken

      words_are : after ≡ words_left (least_taken k before) before
      words_are =
          words ∙ left-done number _ _ passes ∙ ap (λ (w : Option Request). words_for k w before) busy ∙ ap (λ (l : Left). words_left l before) taken

      was-found : (least_taken k before).found ≡ true
      was-found = ap (λ (l : Left). l.found) (sym taken) ∙ extracts-found k before passes long busy

  pub finishes : Finishes k before after d
  finishes =
      record {
        call = call;
        words = words;
        least = λ long busy. record { damaged = gives long busy; card = card-is long busy; words = words_are long busy; found = was-found long busy };
      }

module _ (k : Card) (ws : List ℕ) where
  pub entry-decides : (number : ℕ) → number ≡ first_given (entry_table k (length ws)) → (number ≡ 0 → ⊥) → first_given (finish_table k ws) ≡ number
  entry-decides number e h = first-append _ (entry-numbered k (length ws)) ∙ or-first _ _ (λ z. h (e ∙ z)) ∙ sym e

  pub entry-refused : (number : ℕ) → number ≡ first_given (entry_table k (length ws)) → (number ≡ 0 → ⊥) → Finishes k ws ws (refused k number)
  entry-refused number e h =
      let why = entry-decides number e h in
      finishes k ws ws (refused k number) (rw why (is-refused k number (finished k ws) h)) (rw why (sym (left-before number _ ws h)))

  -- the entry passed, so Damaged decides
  module _ (r : Request) (busy : k.waiting ≡ Some r) (entry : first_given (entry_table k (length ws)) ≡ 0) where
    gives-12 : damaged_by k r ws ≡ true → first_given (finish_table k ws) ≡ 12
    unfolding first_given
    gives-12 t = at_entry k ws r busy entry ∙ rw t

    pub gives_none : damaged_by k r ws ≡ false → first_given (finish_table k ws) ≡ 0
    unfolding first_given
    gives_none f = at_entry k ws r busy entry ∙ rw f

    damaged-refused : damaged_by k r ws ≡ true → Finishes k ws ws (refused k 12)
    damaged-refused t =
        let why = gives-12 t in
        finishes k ws ws (refused k 12) (rw why (is-refused k 12 (finished k ws) (omega arith))) (rw why)

    done-done : damaged_by k r ws ≡ false → Finishes k ws (words_left (left_by k r ws) ws) (finished_by k r (left_by k r ws))
    done-done f =
        let why = gives_none f in
        finishes k ws (words_left (left_by k r ws) ws) (finished_by k r (left_by k r ws))
        (rw why
        (subst (λ (w : Option Request). Answered k 0 (finished_for k w ws) (finished_by k r (left_by k r ws))) (sym busy)
        (is-done k 0 (finished_by k r (left_by k r ws)) refl (finished-number k r (left_by k r ws)))))
        (rw why (ap (λ (w : Option Request). words_for k w ws) (sym busy)))

    -- by what the finish of the job hands back
    module _ (after : List ℕ) (out : Result Settled Damaged) (s : SettlesOn k.root ws after out (parts_of k) (job_of (parts_of k) r)) where
      pub request-damaged : (done : Done) (e : Damaged) → out ≡ Err e → done ≡ refused k 12 → Finishes k ws after done
      unfolding damaged_by
      request-damaged done e t f =
          let (d, a) = settles-damaged _ _ _ _ _ _ s e t in
          rw (f, a) (damaged-refused d)

      pub request-done : (done : Done) (next : Settled) → out ≡ Ok next → done ≡ done_with k r next → Finishes k ws after done
      unfolding damaged_by left_by list_of
      request-done done next f e =
          let (d, (o, a)) = settles-done _ _ _ _ _ _ s next f in
          rw (e ∙ done-finished k r next (left_by k r ws) o, a) (done-done d)
