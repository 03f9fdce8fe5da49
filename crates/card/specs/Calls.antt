-- What each call answers: document 01, "A request, step by step". Assumes nothing.
use Rattle.std.specs.Prelude.{ℕ, not, List, [], ◌∷◌, ◌≡◌, length, replicate, Option, None, Some}
use Rattle.record.specs.declared.Record.{Record}
use Rattle.record.specs.Standing.{dummy}
use Rattle.record.specs.Words.{record4}
use Rattle.path.specs.declared.sizes.Sizes.{Sizes}
use Rattle.lists.specs.declared.Listed.{Listed as Counts}
use Rattle.path.specs.Sizes.{in_range}
use Rattle.lists.specs.BucketList.{BucketList, no_buckets, counts, laid, words_moved}
use Rattle.refusal.specs.Refusal.{Refusal, row, first_given, afterwards}
use Rattle.request.specs.declared.Request.{Request}
use Rattle.request.specs.Job.{job_of}
use Rattle.answers.specs.declared.Answer.TheVariants.{Started, Listed, Least, Withdrawn}
use Rattle.listing.specs.Listing.{list_for}
use Rattle.checks.specs.declared.Call.{Call}
use Rattle.checks.specs.declared.Call.TheVariants.{Min, Withdraw, Begin}
use Rattle.checks.specs.Checks.{call_rows}
use Rattle.card.specs.declared.Card.{Card}
use Rattle.card.specs.declared.Done.{Done}
use Rattle.card.specs.Tables.{parts_of, card_of}
use Rattle.card.specs.BadCard.{bad_card}
use Rattle.card.specs.Answers.{Answered}

-- a card with another waiting request, all else as it was
abbrev pub with_waiting : Card → Option Request → Card
with_waiting k w = card_of (parts_of k) k.root w

-- when a call is refused, but for Damaged: the rows stand in checks/specs/Checks.antt
unfoldable pub call_table : Card → Call → List Refusal
call_table k call = call_rows (bad_card k) (parts_of k) k.root k.waiting call

-- ---- start
-- nothing finished, nothing live, nothing waiting; all dummies
abbrev pub fresh_card : Sizes → Card
fresh_card s = record { sizes = s; t = 0; c = 0; root = replicate 64 dummy; least = dummy; waiting = None }

-- what a refused start hands back, for "every other field 0": 0 in every field; its height is 0, so it is a BadCard
abbrev pub zero_record : Record
zero_record = record4 0 0 0 0

abbrev pub zero_card : Card
zero_card =
    record {
      sizes = record { h = 0; z = 0; r = 0; t = 0 };
      t = 0;
      c = 0;
      root = replicate 64 zero_record;
      least = zero_record;
      waiting = None;
    }

-- "Starting a card gives 1 only."
unfoldable pub start_table : Sizes → List Refusal
start_table s = row 1 (not (in_range s)) ∷ []

abbrev pub started : Sizes → Done
started s = record { card = fresh_card s; answer = Started }

-- ---- begin
-- the bucket list of a request on a card
unfoldable pub list_of : Card → Request → BucketList
list_of k r = list_for k.sizes.h (job_of (parts_of k) r)

-- with room for so many numbers
abbrev pub begin_table : Card → Request → ℕ → List Refusal
begin_table k r room = call_table k (Begin r room)

-- "It changes nothing on the card but the waiting request", and answers "how many are whole and how many are least-record only"
abbrev pub begun_with : Card → Request → Counts → Done
begun_with k r n = record { card = with_waiting k (Some r); answer = Listed n }

abbrev pub begun : Card → Request → Done
begun k r = begun_with k r (counts (list_of k r))

-- the promise of a begin: its answer, and the lent list afterwards
pub record Begins (k : Card) (r : Request) (before after : List ℕ) (answer : Done) : Type 0 where
  pub call : Answered k (first_given (begin_table k r (length before))) (begun k r) answer
  pub places :
      after ≡ afterwards (first_given (begin_table k r (length before))) (laid (list_of k r) before) before

-- ---- FindMin
abbrev pub min_table : Card → List Refusal
min_table k = call_table k Min

-- "answers the root's least record at once", of an empty list; "It leaves the card unchanged"
abbrev pub found_min : Card → Done
found_min k = record { card = k; answer = Least k.least (words_moved k.sizes.z no_buckets) }

-- ---- withdraw
abbrev pub withdraw_table : Card → List Refusal
withdraw_table k = call_table k Withdraw

-- "drops the waiting request and changes nothing else"
abbrev pub withdrawn : Card → Done
withdrawn k = record { card = with_waiting k None; answer = Withdrawn }
