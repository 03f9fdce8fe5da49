use Rattle.std.proofs.lemmas.Result.{err_from_is_err_and}
use Rattle.settle.specs.Left.{rule_after}
use Rattle.clearing.specs.Removal.{named}
use Rattle.removal.proofs.RemovalLaws.{fetched-bad, left-judged}
use Rattle.removal.proofs.prepare_removal.Goals as goal

pub returns-in_err-fit : goal.returns-in_err-fit
returns-in_err-fit c =
    let s = c.args in
    let e = err_from_is_err_and c.from_residual.result c.from_residual.ensures.1 in
    fetched-bad s.parts s.root s.words.now s.leaf (named s.label s.stamp) _ _ _ c.look_path-moved.ensures _ _ _ c.in_err-fit.was e.1

pub returns : goal.returns
returns c =
    let s = c.args in
    left-judged s.parts s.root s.words.now s.leaf (named s.label s.stamp) _ _ _ c.look_path-moved.ensures _ _ (c.remove_path-found.ensures (rule_after s.parts)) _ c.live_after.ensures c.in_ok-fit.was _ c.judged.ensures
