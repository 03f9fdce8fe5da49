-- A good card: its parts fit, and the request that waits is within its rules. What a card that is not bad tells, and what makes
-- one. Assumes nothing.
use mathlib.Core.Bool.{false}
use mathlib.Core.Path.{◌≡◌}
use mathlib.Mathlib.Data.Bool.Basic.{or-eq-false-eq-eq-false-and-eq-false as neither}
use borrow.Author.Tests.{eqb-true, not-false}
use Rattle.judge.proofs.FitLaws.{Fit, fit, fit_parts}
use Rattle.refusal.specs.Refusal.{first_given}
use Rattle.card.specs.declared.Card.{Card}
use Rattle.card.specs.Tables.{parts_of, waiting_table}
use Rattle.card.specs.BadCard.{bad_card}

pub record Good (k : Card) : Type 0 where
  pub parts : Fit (parts_of k) k.root
  pub waiting : first_given (waiting_table k k.waiting) ≡ 0

module _ (k : Card) where
  pub good : bad_card k ≡ false → Good k
  unfolding bad_card
  good e =
      let (p, w) = (neither _ _).0 e in
      record { parts = fit _ _ p; waiting = eqb-true _ _ (not-false _ w) }

  pub good-card : Good k → bad_card k ≡ false
  unfolding bad_card
  good-card g = rw (fit_parts _ _ g.parts, g.waiting)
