-- A call is refused with its number, or done. Assumes nothing.
use Prim.Native.Nat.{ℕ, zero, suc}
use mathlib.Core.Path.{◌≡◌, refl, sym, ◌∙◌}
use Rattle.refusal.proofs.RefusalLaws.{left-before, left-done}
use Rattle.card.specs.declared.Card.{Card}
use Rattle.card.specs.declared.Done.{Done}
use Rattle.answers.specs.Answers.{number_of}
use Rattle.card.specs.Answers.{refused, or_refused, Answered}

module _ (k : Card) (number : ℕ) (done : Done) where
  pub is-refused : (number ≡ 0 → ⊥) → Answered k number done (refused k number)
  unfolding or_refused
  is-refused h = record { whole = sym (left-before number _ _ h); numbered = refl; valued = sym (left-before number _ _ h) }

  pub is-done : number ≡ 0 → number_of done.answer ≡ 0 → Answered k number done done
  unfolding or_refused
  is-done h e = record { whole = sym (left-done number _ _ h); numbered = e ∙ sym h; valued = sym (left-done number _ _ h) }

-- told by the number that the checks gave
module _ (k : Card) (n number : ℕ) (done : Done) (e : n ≡ number) where
  pub told-refused : (n ≡ 0 → ⊥) → Answered k number done (refused k n)
  told-refused h = rw (← e) (is-refused k n done h)

  pub told-done : n ≡ 0 → number_of done.answer ≡ 0 → Answered k number done done
  told-done z = is-done k number done (sym e ∙ z)

-- the number that a call answers is the refusal's
pub number-given : (k : Card) (number : ℕ) (done : Done) → number_of done.answer ≡ 0 → number_of (or_refused k number done).answer ≡ number
unfolding or_refused
number-given k zero done e = e
number-given k (suc number) done e = refl
