-- What a call on a lent card comes to where the card is held and handed back. `pre` and `post` are what the call asks and promises,
-- whatever that is; of a reference only what stands behind it counts. std says it of a call with one argument alone
-- (`FnOnceReturnsAtMut`). Assumes nothing.
use Rattle.std.specs.Prelude.{ℕ, List, ◌≡◌}
use denote.MutBor.{MutBor}
use Rattle.card.specs.declared.Card.{Card}
use Rattle.card.specs.declared.Done.{Done}
use Rattle.answers.specs.declared.Answer.{Answer}

-- the call may be made with this card lent to it
abbrev pub TakesCard : (MutBor Card → Type 0) → Card → Type 0
TakesCard pre k = (lent : MutBor Card) → lent.now ≡ k → pre lent

-- with this card lent to it the call may answer, and leave a card, as this says
pub record LeavesCard (post : MutBor Card → Answer → MutBor Card → Type 0) (k : Card) (d : Done) : Type 0 where
  pub lent : MutBor Card
  pub holds : lent.now ≡ k
  pub left : MutBor Card
  pub keeps : post lent d.answer left
  pub leaves : left.now ≡ d.card

-- the same with words lent to it too, of which it leaves those
pub record LeavesBoth (post : MutBor Card → MutBor (List ℕ) → Answer → MutBor Card → MutBor (List ℕ) → Type 0) (k : Card) (ws : List ℕ) (d : Done) (after : List ℕ) : Type 0 where
  pub lent : MutBor Card
  pub words : MutBor (List ℕ)
  pub holds : (lent.now ≡ k) × (words.now ≡ ws)
  pub left : MutBor Card
  pub others : MutBor (List ℕ)
  pub keeps : post lent words d.answer left others
  pub leaves : (left.now ≡ d.card) × (others.now ≡ after)
