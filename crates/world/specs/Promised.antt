-- What the contracts of `card` and `rack` promise of one call, whatever code carries it out, and what a driver then holds; demand 2
-- is stated of it. By proofs/PromisedLaws.antt it is the outcome that `step` gives, and no other. Assumes nothing.
use Rattle.std.specs.Prelude.{ℕ, List, [], ◌∷◌, ◌≡◌, Result, ⊤}
use Rattle.lists.specs.declared.Listed.{Listed as Counts}
use Rattle.lists.specs.BucketList.{no_buckets, counts}
use Rattle.refusal.specs.declared.Reason.{Reason}
use Rattle.refusal.specs.Reason.{refusal_in}
use Rattle.refusal.specs.Refusal.{first_given, afterwards}
use Rattle.rack.specs.Promises.{Fetches, Stores}
use Rattle.request.specs.declared.Request.{Request}
use Rattle.card.specs.declared.Done.{Done}
use Rattle.answers.specs.declared.Answer.{Answer}
use Rattle.answers.specs.declared.Answer.TheVariants.{Started, Listed, Least, Withdrawn, Inserted, Extracted, Deleted, Refused}
use Rattle.answers.specs.Answers.{number_of}
use Rattle.card.specs.Answers.{Answered}
use Rattle.card.specs.Calls.{Begins, min_table, found_min, withdraw_table, withdrawn}
use Rattle.card.specs.Finish.{Finishes}
use Rattle.world.specs.World.{World, unlisted, Asked, Call, begin, finish, withdraw, find_min, Outcome}

-- "with how many are whole and how many are least-record only"; none where the answer is no list
abbrev pub counts_in : Answer → Counts
counts_in Started = counts no_buckets
counts_in (Listed n) = n
counts_in (Least r words) = counts no_buckets
counts_in Withdrawn = counts no_buckets
counts_in (Inserted label stamp words) = counts no_buckets
counts_in (Extracted event words) = counts no_buckets
counts_in (Deleted found words) = counts no_buckets
counts_in (Refused number) = counts no_buckets

-- what finish leaves is stored in the tree, and the list is done with
abbrev pub all_done : Done → Result ⊤ Reason → Result ⊤ Reason → List ℕ → Outcome
all_done d a b tree = record { world = unlisted d.card tree; answer = d.answer; fetch = refusal_in a; store = refusal_in b }

module _ (u : World) where
  -- the world with the card that came out, and this list where nothing is refused
  abbrev pub holding : Done → List ℕ → Counts → World
  holding d list many =
      record {
        card = d.card;
        tree = u.tree;
        list = afterwards (number_of d.answer) list u.list;
        counts = afterwards (number_of d.answer) many u.counts;
      }

  -- a call of the card alone
  abbrev pub told : Done → List ℕ → Counts → Outcome
  told d list many = record { world = holding d list many; answer = d.answer; fetch = 0; store = 0 }

  -- fetch and store by the list that is held
  abbrev pub FetchesHeld : List ℕ → Result ⊤ Reason → List ℕ → Type 0
  FetchesHeld words answer after =
      Fetches u.card.sizes.h u.card.sizes.z u.tree u.list u.counts.whole u.counts.least words answer after

  abbrev pub StoresHeld : List ℕ → Result ⊤ Reason → List ℕ → Type 0
  StoresHeld words answer after =
      Stores u.card.sizes.h u.card.sizes.z u.tree u.list u.counts.whole u.counts.least words answer after

  -- what finish refuses is not stored
  abbrev pub unstored : Done → Result ⊤ Reason → Outcome
  unstored d a =
      record { world = holding d [] (counts no_buckets); answer = d.answer; fetch = refusal_in a; store = 0 }

  pub data Promised : Call → Outcome → Type 0 where
    by-begin : {r : Request} (asked : Asked r) (lent after : List ℕ) (d : Done) → Begins u.card r lent after d
        → Promised (begin asked lent) (told d after (counts_in d.answer))
    by-withdraw : (d : Done) → Answered u.card (first_given (withdraw_table u.card)) (withdrawn u.card) d
        → Promised withdraw (told d [] (counts no_buckets))
    by-min : (d : Done) → Answered u.card (first_given (min_table u.card)) (found_min u.card) d
        → Promised find_min (told d u.list u.counts)
    by-refused : (words ws after : List ℕ) (a : Result ⊤ Reason) (d : Done) → FetchesHeld words a ws → Finishes u.card ws after d
        → (number_of d.answer ≡ 0 → ⊥) → Promised (finish words) (unstored d a)
    by-finish : (words ws after tree : List ℕ) (a b : Result ⊤ Reason) (d : Done) → FetchesHeld words a ws → Finishes u.card ws after d
        → number_of d.answer ≡ 0 → StoresHeld after b tree
        → Promised (finish words) (all_done d a b tree)

-- calls one after the other, each with an outcome that is promised on the world that the one before it left
pub data Carried : World → List Call → List Outcome → Type 0 where
  ended : {u : World} → Carried u [] []
  called : {u : World} {c : Call} {o : Outcome} {cs : List Call} {os : List Outcome} → Promised u c o → Carried o.world cs os
      → Carried u (c ∷ cs) (o ∷ os)
