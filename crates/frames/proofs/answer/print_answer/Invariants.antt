-- `frames::answer::print_answer` meets its contract. The loop: `Writing`. Assumes nothing.
use Rattle.frames.proofs.AnswerLaws.{Writing}
use Rattle.frames.proofs.answer.print_answer.Given as goal

abbrev pub invariant-loop-i : goal.invariant-loop-i
invariant-loop-i l = Writing l.numbers l.initial.out l.i l.at l.out
