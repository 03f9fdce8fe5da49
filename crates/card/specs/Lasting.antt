-- The cards that a driver holds who forges none, whatever words it is handed: document 01, "a value that goes in with a call and
-- comes out of it". No honest rack is asked for. Assumes nothing.
use Rattle.std.specs.Prelude.{ℕ, true, List, ◌≡◌}
use Rattle.path.specs.declared.sizes.Sizes.{Sizes}
use Rattle.path.specs.Sizes.{in_range}
use Rattle.refusal.specs.Refusal.{first_given}
use Rattle.request.specs.declared.Request.{Request}
use Rattle.card.specs.declared.Card.{Card}
use Rattle.card.specs.declared.Done.{Done}
use Rattle.card.specs.Answers.{Answered}
use Rattle.card.specs.Calls.{fresh_card, Begins, min_table, found_min, withdraw_table, withdrawn}
use Rattle.card.specs.Finish.{Finishes}

-- the card of a start that was not refused, and what a call on such a card hands back, refused or not
pub data Reached : Card → Type 0 where
  start : (s : Sizes) → in_range s ≡ true → Reached (fresh_card s)
  begin : {k : Card} {r : Request} {before after : List ℕ} {d : Done} → Reached k → Begins k r before after d → Reached d.card
  finish : {k : Card} {before after : List ℕ} {d : Done} → Reached k → Finishes k before after d → Reached d.card
  withdraw : {k : Card} {d : Done} → Reached k → Answered k (first_given (withdraw_table k)) (withdrawn k) d → Reached d.card
  find_min : {k : Card} {d : Done} → Reached k → Answered k (first_given (min_table k)) (found_min k) d → Reached d.card
