-- `frames::answer::print_answer` meets its contract. The loop: `Writing`. Assumes nothing.
use native.Mathlib.Omega.{arith}
use mathlib.Core.Path.{sym, ◌∙◌}
use Rattle.frames.proofs.AnswerLaws.{writing-starts, writing-ends, next_fits, next-within, next-turn, unfit}
use Rattle.frames.proofs.answer.print_answer.Goals as goal

pub returns-then-not-fits : goal.returns-then-not-fits
returns-then-not-fits c = unfit _ _ (sym c.if-not-fits.true ∙ c.fits.ensures)

pub loop-i-init : goal.loop-i-init
loop-i-init c = writing-starts _ _ (sym c.if-not-fits.false ∙ c.fits.ensures)

pub bounds-out-at : goal.bounds-out-at
bounds-out-at c =
    next-within _ _ _ _ _ c.loop-i.invariant c.loop-i-test.true _ _ c.print-at.ensures

pub overflow_add-at-in-loop-i : goal.overflow_add-at-in-loop-i
overflow_add-at-in-loop-i c =
    omega (arith, next_fits _ _ _ _ _ c.loop-i.invariant c.loop-i-test.true _ _ c.print-at.ensures)

pub loop-i-preserved : goal.loop-i-preserved
loop-i-preserved c =
    next-turn _ _ _ _ _ c.loop-i.invariant c.loop-i-test.true _ _ c.print-at.ensures _ c.mark.ensures

pub returns : goal.returns
returns c = writing-ends _ _ _ _ _ c.loop-i.invariant c.loop-i-test.false
