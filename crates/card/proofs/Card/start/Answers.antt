use native.Mathlib.Omega.{arith}
use mathlib.Core.Path.{refl, sym, ap, ◌∙◌}
use mathlib.Core.Bool.{not}
use Rattle.path.specs.Sizes.{sizes_of}
use Rattle.refusal.specs.Refusal.{first_given}
use Rattle.card.specs.Calls.{start_table, started, zero_card}
use Rattle.card.proofs.AnswerLaws.{is-refused, is-done}
use Rattle.card.proofs.Card.start.Goals as goal

pub returns-then-not-in_range : goal.returns-then-not-in_range
unfolding start_table first_given
returns-then-not-in_range c =
    let s = c.args in
    rw (ap not (sym c.in_range.ensures ∙ c.if-not-in_range.true), c.refuse.ensures, c.zero.ensures)
    (is-refused zero_card 1 (started (sizes_of s.h s.z s.r s.t)) (omega arith))

pub returns : goal.returns
unfolding start_table first_given
returns c =
    let s = c.args in
    rw (ap not (sym c.in_range.ensures ∙ c.if-not-in_range.false), c.fresh.ensures)
    (is-done zero_card 0 (started (sizes_of s.h s.z s.r s.t)) refl refl)
