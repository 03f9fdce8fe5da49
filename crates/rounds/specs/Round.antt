-- One request played on both sides: document 01, "A request, step by step". A round of `world`, with a list and words of its own,
-- in which the first step that refuses decides. Assumes nothing.
use Rattle.std.specs.Prelude.{ℕ, List, ◌≡◌, replicate}
use Rattle.refusal.specs.Refusal.{or_else, afterwards}
use Rattle.request.specs.declared.Request.{Request}
use Rattle.answers.specs.Answers.{number_of}
use Rattle.card.specs.declared.Card.{Card}
use Rattle.card.specs.declared.Done.{Done}
use Rattle.card.specs.Answers.{or_refused, Answered}
use Rattle.world.specs.World.{World, unlisted, Outcome, after_begin, after_finish, after_round}

-- what is lent for the list, and for the fetched words
abbrev pub list_places : List ℕ
list_places = replicate 64 0

abbrev pub word_places : List ℕ
word_places = replicate 888 0

-- the card that an outcome leaves, and its answer
abbrev pub done_in : Outcome → Done
done_in o = record { card = o.world.card; answer = o.answer }

-- a request that waits in the world `v`, fetched, finished and stored
abbrev pub ending : World → Outcome
ending v = after_finish v word_places

-- the first refusal of fetch, finish and store, 0 for none
abbrev pub refusal_in : Outcome → ℕ
refusal_in o = or_else o.fetch (or_else (number_of o.answer) o.store)

-- and behind `before`, which begin gave
abbrev pub first_refusal : ℕ → World → ℕ
first_refusal before v = or_else before (refusal_in (ending v))

abbrev pub tree_left : ℕ → World → List ℕ
tree_left before v = afterwards (first_refusal before v) (ending v).world.tree v.tree

-- Carried to its end; or, with the first refusal, `k`, the card before its begin, and the tree as they were: the card on which it
-- waits is dropped.
pub record Carries (k : Card) (before : ℕ) (v : World) (after : List ℕ) (answer : Done) : Type 0 where
  pub call : Answered k (first_refusal before v) (done_in (ending v)) answer
  pub lent : after ≡ tree_left before v

-- A round: the request `r` on this card and this tree.
module _ (k : Card) (r : Request) (tree : List ℕ) where
  abbrev pub begun : Outcome
  begun = after_begin (unlisted k tree) r list_places

  -- its promise
  abbrev pub Plays : List ℕ → Done → Type 0
  Plays = Carries k (number_of begun.answer) begun.world

  -- and what it comes to, as an equation: its refusal, its answer with the card, and the tree
  unfoldable pub round_refusal : ℕ
  round_refusal = or_else (number_of begun.answer) (refusal_in (after_round (unlisted k tree) r list_places word_places))

  unfoldable pub round_done : Done
  round_done = or_refused k round_refusal (done_in (after_round (unlisted k tree) r list_places word_places))

  unfoldable pub round_tree : List ℕ
  round_tree = afterwards round_refusal (after_round (unlisted k tree) r list_places word_places).world.tree tree
