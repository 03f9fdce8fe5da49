use Rattle.record.specs.Words.{records}
use Rattle.work.proofs.WorkLaws.{path-worked}
use Rattle.work.proofs.work_path.Goals as goal

pub returns : goal.returns
returns c = λ rule.
    let s = c.args in
    path-worked rule s.sizes s.leaf (records s.beside.now) (records s.w.now) _ _ _ _ c.evict.ensures (c.mend_path-kids.ensures rule) (c.least_over.ensures rule)
