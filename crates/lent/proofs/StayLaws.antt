-- Where a call is refused, the card that was lent stands there still. Assumes nothing.
use Prim.Native.Nat.{ℕ}
use mathlib.Core.Path.{◌≡◌, ap, ◌∙◌}
use Rattle.card.specs.declared.Card.{Card}
use Rattle.answers.specs.declared.Answer.{Answer}
use Rattle.card.specs.declared.Done.{Done}
use Rattle.card.specs.Answers.{Answered}
use Rattle.lent.specs.Handed.{handed}
use Rattle.lent.proofs.StartLaws.{as-refused}

-- "card and lent slices are as before": a number other than 0 leaves the card that was lent
pub refused-stays :
    (k : Card) (n : ℕ) (d : Done) (k' : Card) (a : Answer) → (n ≡ 0 → ⊥) → Answered k n d (handed k' a) → k' ≡ k
refused-stays k n d k' a given p = ap (λ (x : Done). x.card) (p.whole ∙ as-refused n d k given)
