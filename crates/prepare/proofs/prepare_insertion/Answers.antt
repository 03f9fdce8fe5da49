use Rattle.std.proofs.lemmas.Result.{err_from_is_err_and}
use Rattle.settle.specs.Left.{rule_after}
use Rattle.prepare.proofs.PreparedLaws.{fetched-bad, left-judged}
use Rattle.prepare.proofs.prepare_insertion.Goals as goal

pub returns-in_err-fit : goal.returns-in_err-fit
returns-in_err-fit c =
    let s = c.args in
    let e = err_from_is_err_and c.from_residual.result c.from_residual.ensures.1 in
    fetched-bad s.parts s.root s.words.now s.first s.second s.new _ _ _ c.look_pair-moved.ensures s.one.now s.two.now _ _ c.in_err-fit.was e.1

pub returns : goal.returns
returns c =
    let s = c.args in
    left-judged s.parts s.root s.words.now s.first s.second s.new _ _ _ c.look_pair-moved.ensures c.requires.0.parts.sizes.height.0 _ s.one.now s.two.now _ _ _ (c.work_pair-least.ensures (rule_after s.parts)) _ c.save_root-root.ensures c.in_ok-fit.was _ c.judged.ensures
