-- What a call asks and promises of words that are lent to it, whatever that is (`pre`, `post`): the words stand behind a reference, of
-- which only what it holds counts. std says it of a call with one argument alone (`FnOnceReturnsAtMut`). Assumes nothing.
use Rattle.std.specs.Prelude.{ℕ, List, ◌≡◌}
use denote.MutBor.{MutBor}
use Rattle.card.specs.declared.Done.{Done}

-- the call may be made with these words lent to it
abbrev pub TakesWords : (MutBor (List ℕ) → Type 0) → List ℕ → Type 0
TakesWords pre ws = (lent : MutBor (List ℕ)) → lent.now ≡ ws → pre lent

-- with these words lent to it the call may hand this back, and leave those words
pub record GivesWords (post : MutBor (List ℕ) → Done → MutBor (List ℕ) → Type 0) (ws : List ℕ) (d : Done) (after : List ℕ) : Type 0 where
  pub lent : MutBor (List ℕ)
  pub holds : lent.now ≡ ws
  pub left : MutBor (List ℕ)
  pub keeps : post lent d left
  pub leaves : left.now ≡ after
