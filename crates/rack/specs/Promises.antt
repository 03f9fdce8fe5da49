-- What fill, fetch and store promise, for every input, refused or not. Assumes nothing.
use Rattle.std.specs.Prelude.{ℕ, ◌≡◌, List, Result, ⊤}
use Rattle.path.specs.Layout.{fresh_tree}
use Rattle.refusal.specs.declared.Reason.{Reason}
use Rattle.refusal.specs.Reason.{refusal_in}
use Rattle.refusal.specs.Refusal.{afterwards}
use Rattle.rack.specs.Answers.{fill_refusal, copy_refusal}
use Rattle.copies.specs.Copy.{listed, fetched, stored}

-- The answer has the refusal's number, and the slice that was lent to be written holds what is due, or what it held before.
pub record Answers (refusal : ℕ) (due before : List ℕ) (answer : Result ⊤ Reason) (after : List ℕ) : Type 0 where
  pub number : refusal_in answer ≡ refusal
  pub lent : after ≡ afterwards refusal due before

abbrev pub Fills : ℕ → ℕ → List ℕ → Result ⊤ Reason → List ℕ → Type 0
Fills h z tree answer after = Answers (fill_refusal h z tree) (fresh_tree h z) tree answer after

abbrev pub Fetches : ℕ → ℕ → List ℕ → List ℕ → ℕ → ℕ → List ℕ → Result ⊤ Reason → List ℕ → Type 0
Fetches h z tree list whole least words answer after =
    Answers (copy_refusal h z tree list whole least words) (fetched z tree (listed list whole least) words) words answer after

abbrev pub Stores : ℕ → ℕ → List ℕ → List ℕ → ℕ → ℕ → List ℕ → Result ⊤ Reason → List ℕ → Type 0
Stores h z tree list whole least words answer after =
    Answers (copy_refusal h z tree list whole least words) (stored z (listed list whole least).whole words tree) tree answer after
