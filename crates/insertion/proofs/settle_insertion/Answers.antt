use borrow.Author.Rules.{rules}
use native.Mathlib.Omega.{arith}
use mathlib.Core.Path.{◌∙◌}
use Rattle.std.proofs.lemmas.Result.{err_from_is_err_and}
use Rattle.settle.proofs.PreparedLaws.{is-unsettled, moved-few, is-settled}
use Rattle.prepare.proofs.PreparedLaws.{pair-prepares}
use Rattle.insertion.proofs.StoreLaws.{pair-room, pair-words}
use Rattle.insertion.proofs.settle_insertion.Goals as goal

pub write_insertion-requires : goal.write_insertion-requires
write_insertion-requires c =
    let s = c.args in
    let p = c.requires in
    let ready = pair-prepares s.parts s.root s.words.now s.first s.second s.new _ _ _ _ _ c.prepare_insertion.ensures in
    (pair-room s.parts s.first s.second s.words.now _ _ p (c.prepare_insertion.auto.one ∙ search rules) (c.prepare_insertion.auto.two ∙ search rules), omega (arith, moved-few _ _ _ _ _ ready _ c.in_ok-out.was, p.parts.sizes.height))

pub returns-in_err-out : goal.returns-in_err-out
returns-in_err-out c =
    let s = c.args in
    let ready = pair-prepares s.parts s.root s.words.now s.first s.second s.new _ _ _ _ _ c.prepare_insertion.ensures in
    let e = err_from_is_err_and c.from_residual.result c.from_residual.ensures.1 in
    is-unsettled _ _ _ _ _ ready _ _ _ _ c.in_err-out.was e.1

pub returns : goal.returns
returns c =
    let s = c.args in
    let ready = pair-prepares s.parts s.root s.words.now s.first s.second s.new _ _ _ _ _ c.prepare_insertion.ensures in
    is-settled _ _ _ _ _ ready _ c.in_ok-out.was _ _ _ _ _ (pair-words s.parts.sizes s.first s.second c.requires.parts.sizes.height.0) c.write_insertion.ensures
