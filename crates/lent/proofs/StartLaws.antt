-- A start where a card stands already: refused, it leaves that card. Assumes nothing.
use Prim.Native.Nat.{ℕ}
use mathlib.Core.Bool.{true, false}
use native.Mathlib.Omega.{arith}
use mathlib.Core.Path.{◌≡◌, ap, sym, ◌∙◌}
use Rattle.path.specs.declared.sizes.Sizes.{Sizes}
use Rattle.path.specs.Sizes.{in_range}
use Rattle.refusal.specs.Refusal.{first_given}
use Rattle.refusal.proofs.RefusalLaws.{left-before, left-done}
use Rattle.card.specs.declared.Card.{Card}
use Rattle.card.specs.declared.Done.{Done}
use Rattle.card.specs.Answers.{refused, or_refused, Answered}
use Rattle.card.specs.Calls.{zero_card, start_table, started}
use Rattle.lent.specs.Handed.{handed}

module _ (n : ℕ) (d : Done) (k : Card) where
  as-done : n ≡ 0 → or_refused k n d ≡ d
  unfolding or_refused
  as-done e = left-done n d (refused k n) e

  pub as-refused : (n ≡ 0 → ⊥) → or_refused k n d ≡ refused k n
  unfolding or_refused
  as-refused h = left-before n d (refused k n) h

-- what is promised of a call that hands back another card where it is refused
module _ (k other : Card) (n : ℕ) (d x : Done) (a : Answered other n d x) where
  gone : n ≡ 0 → Answered k n d x
  gone e =
      record { whole = a.whole ∙ as-done n d other e ∙ sym (as-done n d k e); numbered = a.numbered; valued = a.valued }

  stayed : (n ≡ 0 → ⊥) → Answered k n d (handed k x.answer)
  stayed e =
      record {
        whole = ap (λ (y : Done). handed k y.answer) (a.whole ∙ as-refused n d other e) ∙ sym (as-refused n d k e);
        numbered = a.numbered;
        valued = a.valued;
      }

module _ (k : Card) (s : Sizes) (x : Done) (a : Answered zero_card (first_given (start_table s)) (started s) x) where
  pub started-over : in_range s ≡ true → Answered k (first_given (start_table s)) (started s) x
  unfolding start_table first_given
  started-over e = gone k zero_card _ _ x a (rw e)

  pub stays-over : in_range s ≡ false → Answered k (first_given (start_table s)) (started s) (handed k x.answer)
  unfolding start_table first_given
  stays-over e = stayed k zero_card _ _ x a (rw e (λ z. omega arith))
