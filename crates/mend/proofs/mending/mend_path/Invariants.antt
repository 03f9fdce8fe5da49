-- `mending::mend_path`: the buckets below `level` are laid, and the least records of its children known. Assumes nothing.
use Rattle.mend.proofs.MendLaws.{Mending}
use Rattle.mend.proofs.mending.mend_path.Given as goal

abbrev pub invariant-loop-level : goal.invariant-loop-level
invariant-loop-level l =
    Mending l.sizes l.leaf l.initial.path l.w l.beside l.path l.level l.last l.end l.least
