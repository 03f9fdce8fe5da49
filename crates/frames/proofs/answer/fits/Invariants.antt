-- `frames::answer::fits` meets its contract. The loop: `Counting`. Assumes nothing.
use Rattle.frames.proofs.AnswerLaws.{Counting}
use Rattle.frames.proofs.answer.fits.Given as goal

abbrev pub invariant-loop-n : goal.invariant-loop-n
invariant-loop-n l = Counting l.numbers l.room l.n-index l.left
