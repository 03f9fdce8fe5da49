use borrow.Author.Rules.{rules}
use native.Mathlib.Omega.{arith}
use mathlib.Core.Path.{◌∙◌}
use Rattle.std.proofs.lemmas.Result.{err_from_is_err_and}
use Rattle.settle.proofs.PreparedLaws.{is-unsettled, moved-few, is-settled}
use Rattle.removal.proofs.RemovalLaws.{store-room, path-words}
use Rattle.removal.proofs.settle_removal.Goals as goal

pub write_removal-requires : goal.write_removal-requires
write_removal-requires c =
    let s = c.args in
    let p = c.requires in
    (p.parts.sizes, (store-room s.parts s.leaf s.words.now _ p (c.prepare_removal.auto.path ∙ search rules), omega (arith, moved-few _ _ _ _ _ c.prepare_removal.ensures _ c.in_ok-out.was, p.parts.sizes.height)))

pub returns-in_err-out : goal.returns-in_err-out
returns-in_err-out c =
    let e = err_from_is_err_and c.from_residual.result c.from_residual.ensures.1 in
    is-unsettled _ _ _ _ _ c.prepare_removal.ensures _ _ _ _ c.in_err-out.was e.1

pub returns : goal.returns
returns c =
    is-settled _ _ _ _ _ c.prepare_removal.ensures _ c.in_ok-out.was _ _ _ _ _ (path-words c.args.parts.sizes c.args.leaf) c.write_removal.ensures
