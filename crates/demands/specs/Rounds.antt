-- Whole requests, each begun and finished, one after the other. Assumes nothing.
use Rattle.std.specs.Prelude.{ℕ, suc, List, [], ◌∷◌, ◌≡◌}
use Rattle.request.specs.declared.Request.{Request}
use Rattle.answers.specs.Answers.{number_of}
use Rattle.demands.specs.Queue.{Event, Queue, Operation, Reply, insert, reply, next}
use Rattle.world.specs.World.{World, Asked, Outcome, after_begin, after_round}
use Rattle.demands.specs.Says.{asks, says}

-- a request, with the list and the words that are lent for it
pub data Round : Type 0 where
  round : {r : Request} → Asked r → (lent words : List ℕ) → Round

module _ (u : World) where
  abbrev pub listing : Round → Outcome
  listing (round {r} asked lent words) = after_begin u r lent

  abbrev pub ending : Round → Outcome
  ending (round {r} asked lent words) = after_round u r lent words

-- none of them is refused, neither the begin nor the finish
pub data Passes : World → List Round → Type 0 where
  none : {u : World} → Passes u []
  more : {u : World} {j : Round} {js : List Round} → number_of (listing u j).answer ≡ 0 → number_of (ending u j).answer ≡ 0
      → Passes (ending u j).world js → Passes u (j ∷ js)

-- what they are answered
unfoldable pub answers : World → List Round → List Reply
answers u [] = []
answers u (j ∷ js) = says (ending u j).answer ∷ answers (ending u j).world js

-- what they ask of the queue, and what it replies
abbrev pub wanted : Round → Operation
wanted (round {r} asked lent words) = asks r

unfoldable pub replies : Queue → List Operation → List Reply
replies q [] = []
replies q (r ∷ rs) = reply q r ∷ replies (next q r) rs

-- ---- insertions alone: key, value and label
pub record Input : Type 0 where
  pub key : ℕ
  pub value : ℕ
  pub label : ℕ

abbrev pub insert_of : Input → Operation
insert_of i = insert i.key i.value i.label

-- the events that they make, the first with this stamp
abbrev pub made : ℕ → Input → Event
made t i = record { key = i.key; value = i.value; ref = record { label = i.label; stamp = t } }

unfoldable pub events_from : ℕ → List Input → List Event
events_from t [] = []
events_from t (i ∷ is) = made t i ∷ events_from (suc t) is
