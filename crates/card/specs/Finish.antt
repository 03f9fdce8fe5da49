-- Finish: document 01, "A request, step by step". What the work leaves and when it is Damaged stand in
-- finishes/specs/Finishes.antt; here they are taken of the card and the request that waits on it. Assumes nothing.
use Rattle.std.specs.Prelude.{ℕ, Bool, true, cond, List, [], ◌∷◌, ◌++◌, ◌≡◌, length, Option, None, Some}
use Rattle.record.specs.Standing.{same}
use Rattle.lists.specs.BucketList.{words_moved}
use Rattle.refusal.specs.Refusal.{Refusal, row, first_given, afterwards}
use Rattle.request.specs.declared.Request.{Request}
use Rattle.request.specs.declared.Request.TheVariants.{Extract}
use Rattle.request.specs.Job.{job_of}
use Rattle.listing.specs.Listing.{words_asked}
use Rattle.settle.specs.Left.{Left, removal, removal_damaged, words_left, parts_after}
use Rattle.settle.specs.declared.Settled.{Settled}
use Rattle.finishes.specs.Finishes.{left_for, damaged_for}
use Rattle.answers.specs.Answers.{number_of, answer_to}
use Rattle.checks.specs.declared.Call.TheVariants.{Finish}
use Rattle.card.specs.declared.Card.{Card}
use Rattle.card.specs.declared.Done.{Done}
use Rattle.card.specs.Tables.{parts_of, card_of}
use Rattle.card.specs.Answers.{refused, Answered}
use Rattle.card.specs.Calls.{call_table, list_of}

module _ (k : Card) where
  -- what a request's job leaves, and when it is Damaged
  unfoldable pub left_by : Request → List ℕ → Left
  left_by r ws = left_for (parts_of k) k.root (job_of (parts_of k) r) ws

  unfoldable pub damaged_by : Request → List ℕ → Bool
  damaged_by r ws = damaged_for (parts_of k) k.root (job_of (parts_of k) r) ws

  -- the words that it needs
  abbrev pub words_needed : Request → ℕ
  words_needed r = words_asked k.sizes (job_of (parts_of k) r)

  -- "Every finished Insert, ExtractMin and Delete adds 1 to t"; none waits on the card that comes out
  abbrev pub card_left : Left → Card
  card_left l = card_of (parts_after (parts_of k) l.c l.least) l.root None

  -- "The answer carries the words moved"
  abbrev pub moved_for : Request → ℕ
  moved_for r = words_moved k.sizes.z (list_of k r)

  unfoldable pub finished_by : Request → Left → Done
  finished_by r l = record { card = card_left l; answer = answer_to (parts_of k) r l.found (moved_for r) }

  -- the same, told by what the finish of the job handed back
  abbrev pub done_with : Request → Settled → Done
  done_with r out =
      record {
        card = card_of (parts_after (parts_of k) out.c out.least) out.root None;
        answer = answer_to (parts_of k) r out.found out.moved;
      }

  -- before anything fetched is looked at, with so many words
  abbrev pub entry_table : ℕ → List Refusal
  entry_table room = call_table k (Finish room)

  -- row 12, what comes of it and the words afterwards, by what waits. Where nothing does, 3 is given, and nothing is worked on
  abbrev pub damaged_rows : Option Request → List ℕ → List Refusal
  damaged_rows None ws = []
  damaged_rows (Some r) ws = row 12 (damaged_by r ws) ∷ []

  abbrev pub finished_for : Option Request → List ℕ → Done
  finished_for None ws = refused k 3
  finished_for (Some r) ws = finished_by r (left_by r ws)

  abbrev pub words_for : Option Request → List ℕ → List ℕ
  words_for None ws = ws
  words_for (Some r) ws = words_left (left_by r ws) ws

  -- "finish checks 13, 3, 11, 12 only"
  abbrev pub finish_table : List ℕ → List Refusal
  finish_table ws = entry_table (length ws) ++ damaged_rows k.waiting ws

  abbrev pub finished : List ℕ → Done
  finished ws = finished_for k.waiting ws

-- "ExtractMin replaces the root's least record, wherever it is on the path, by the dummy". Its job looks for that record's label and
-- stamp; what comes out is what the removal of the record itself leaves, in all four numbers, which finds it; and past 13, 3 and 11
-- it is refused, with 12, exactly where that removal is Damaged.
abbrev pub least_taken : Card → List ℕ → Left
least_taken k ws = removal (parts_of k) k.root ws k.least.label (same k.least)

pub record TakesLeast (k : Card) (before after : List ℕ) (answer : Done) : Type 0 where
  pub damaged :
      first_given (entry_table k (length before)) ≡ 0
      → number_of answer.answer ≡ cond (removal_damaged (parts_of k) k.root before k.least.label (same k.least)) 12 0
  pub card : number_of answer.answer ≡ 0 → answer.card ≡ card_left k (least_taken k before)
  pub words : number_of answer.answer ≡ 0 → after ≡ words_left (least_taken k before) before
  pub found : number_of answer.answer ≡ 0 → (least_taken k before).found ≡ true

-- the promise of a finish: its answer, every fetched word afterwards, and that an ExtractMin takes out the least record. Every card's root
-- has 64 places, by its type
pub record Finishes (k : Card) (before after : List ℕ) (answer : Done) : Type 0 where
  pub call : Answered k (first_given (finish_table k before)) (finished k before) answer
  pub words : after ≡ afterwards (first_given (finish_table k before)) (words_for k k.waiting before) before
  pub least : length k.root ≡ 64 → k.waiting ≡ Some Extract → TakesLeast k before after answer
