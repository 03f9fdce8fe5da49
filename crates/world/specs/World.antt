-- Card and rack, what the driver holds between two calls, and what a call makes of them, by the definitions that the contracts of
-- `card` and `rack` cite. Document 01, "A request, step by step". Demand 2's steps, demand 3's traces and the desk's rounds are
-- these. Assumes nothing.
use Rattle.std.specs.Prelude.{ℕ, ◌≤◌, List, [], ◌∷◌, length}
use Rattle.record.specs.declared.Leaf.{Leaf}
use Rattle.record.specs.declared.Stamp.{Stamp}
use Rattle.record.specs.Standing.{dummy_key}
use Rattle.path.specs.declared.sizes.Sizes.{Sizes}
use Rattle.path.specs.Layout.{fresh_tree}
use Rattle.lists.specs.declared.Listed.{Listed as Counts}
use Rattle.lists.specs.BucketList.{BucketList, no_buckets, counts, laid}
use Rattle.refusal.specs.Refusal.{first_given, afterwards}
use Rattle.rack.specs.Answers.{copy_refusal}
use Rattle.copies.specs.Copy.{listed, fetched, stored}
use Rattle.card.specs.declared.Card.{Card}
use Rattle.request.specs.declared.Request.{Request}
use Rattle.request.specs.declared.Request.TheVariants.{Insert, Extract, Delete}
use Rattle.answers.specs.declared.Answer.{Answer}
use Rattle.card.specs.declared.Done.{Done}
use Rattle.card.specs.Answers.{or_refused}
use Rattle.card.specs.Calls.{fresh_card, list_of, begin_table, begun, min_table, found_min, withdraw_table, withdrawn}
use Rattle.card.specs.Finish.{words_for, finish_table, finished}

-- The card, the rack's tree, and the list that the last begin laid in its lent slice, with its counts.
pub record World : Type 0 where
  pub card : Card
  pub tree : List ℕ
  pub list : List ℕ
  pub counts : Counts

abbrev pub holding_list : Card → (tree list : List ℕ) → Counts → World
holding_list k tree list many = record { card = k; tree = tree; list = list; counts = many }

-- no list is held: nothing was begun, or it is done with
abbrev pub unlisted : Card → List ℕ → World
unlisted k tree = holding_list k tree [] (counts no_buckets)

-- "A fresh tree is all dummies."
abbrev pub fresh_world : Sizes → World
fresh_world s = unlisted (fresh_card s) (fresh_tree s.h s.z)

-- What a call leaves and answers; `fetch` and `store` are the rack's numbers, 0 where it refuses nothing or is not called.
pub record Outcome : Type 0 where
  pub world : World
  pub answer : Answer
  pub fetch : ℕ
  pub store : ℕ

module _ (u : World) where
  -- a call of the card alone: what it comes to, and the list that is held if it is not refused
  abbrev pub alone : ℕ → Done → List ℕ → Counts → Outcome
  alone n done list many =
      record {
        world = record {
          card = (or_refused u.card n done).card;
          tree = u.tree;
          list = afterwards n list u.list;
          counts = afterwards n many u.counts;
        };
        answer = (or_refused u.card n done).answer;
        fetch = 0;
        store = 0;
      }

  -- begin, with these places lent
  unfoldable pub after_begin : Request → List ℕ → Outcome
  after_begin r places =
      alone (first_given (begin_table u.card r (length places))) (begun u.card r) (laid (list_of u.card r) places)
      (counts (list_of u.card r))

  -- the list that is held, and the rack's number for it
  abbrev pub held : BucketList
  held = listed u.list u.counts.whole u.counts.least

  abbrev pub rack_number : List ℕ → ℕ
  rack_number words = copy_refusal u.card.sizes.h u.card.sizes.z u.tree u.list u.counts.whole u.counts.least words

  -- fetch
  abbrev pub shown : List ℕ → List ℕ
  shown words = afterwards (rack_number words) (fetched u.card.sizes.z u.tree held words) words

  -- finish, and then store; the list is then done with
  abbrev pub finish_number : List ℕ → ℕ
  finish_number ws = first_given (finish_table u.card ws)

  abbrev pub words_after : List ℕ → List ℕ
  words_after ws = afterwards (finish_number ws) (words_for u.card u.card.waiting ws) ws

  abbrev pub stored_from : List ℕ → List ℕ
  stored_from ws = afterwards (rack_number ws) (stored u.card.sizes.z held.whole ws u.tree) u.tree

  abbrev pub finishing : ℕ → List ℕ → Outcome
  finishing fetch ws =
      record {
        world = record {
          card = (or_refused u.card (finish_number ws) (finished u.card ws)).card;
          tree = afterwards (finish_number ws) (stored_from (words_after ws)) u.tree;
          list = afterwards (finish_number ws) [] u.list;
          counts = afterwards (finish_number ws) (counts no_buckets) u.counts;
        };
        answer = (or_refused u.card (finish_number ws) (finished u.card ws)).answer;
        fetch = fetch;
        store = afterwards (finish_number ws) (rack_number (words_after ws)) 0;
      }

  -- fetch into these words, finish and store
  unfoldable pub after_finish : List ℕ → Outcome
  after_finish words = finishing (rack_number words) (shown words)

-- a round: a request begun, and then fetched, finished and stored
abbrev pub after_round : World → Request → (places words : List ℕ) → Outcome
after_round u r places words = after_finish (after_begin u r places).world words

-- ---- calls in any order
-- What may be begun. A key is a 64-bit number; any other field may be any number at all.
pub data Asked : Request → Type 0 where
  insert : {key value : ℕ} {label first second : Leaf} → key ≤ dummy_key → Asked (Insert key value label first second)
  extract : Asked Extract
  delete : {label : Leaf} {stamp : Stamp} → Asked (Delete label stamp)

-- A begin lends any list; a finish any words, into which the rack fetches before it and from which it stores after it.
pub data Call : Type 0 where
  begin : {r : Request} → Asked r → List ℕ → Call
  finish : List ℕ → Call
  withdraw : Call
  find_min : Call

unfoldable pub step : World → Call → Outcome
step u (begin {r} asked places) = after_begin u r places
step u (finish words) = after_finish u words
step u withdraw = alone u (first_given (withdraw_table u.card)) (withdrawn u.card) [] (counts no_buckets)
step u find_min = alone u (first_given (min_table u.card)) (found_min u.card) u.list u.counts

-- the outcomes of calls, one after the other
unfoldable pub outcomes : World → List Call → List Outcome
outcomes u [] = []
outcomes u (c ∷ cs) = step u c ∷ outcomes (step u c).world cs
