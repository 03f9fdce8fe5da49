use Rattle.record.specs.Words.{records}
use Rattle.clearing.specs.Removal.{named}
use Rattle.work.proofs.WorkLaws.{path-removed}
use Rattle.work.proofs.removal.remove_path.Goals as goal

pub returns : goal.returns
returns c = λ rule.
    let s = c.args in
    path-removed rule s.sizes s.leaf (named s.label s.stamp) (records s.sibs.now) s.root s.w.now _ _ _ _ c.clear-found.ensures (c.work_path-least.ensures rule) c.save_root-root.ensures
