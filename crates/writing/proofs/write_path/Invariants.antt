-- `write_path`: the buckets of the turns so far are stored, and their words counted twice. Assumes nothing.
use Rattle.writing.proofs.StoreLaws.{Storing}
use Rattle.writing.proofs.write_path.Given as goal

abbrev pub invariant-loop : goal.invariant-loop
invariant-loop l = Storing l.size l.end l.from l.initial.words l.words l.moved l.start l.counter
