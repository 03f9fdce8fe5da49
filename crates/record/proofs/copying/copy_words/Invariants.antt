-- `copy_words` meets its contract. The loop: `Pasting`. Assumes nothing.
use Rattle.record.proofs.Pasting.{Pasting}
use Rattle.record.proofs.copying.copy_words.Given as goal

abbrev pub invariant-loop-i : goal.invariant-loop-i
invariant-loop-i l = Pasting l.initial.to l.from l.at l.start l.n l.to l.i
