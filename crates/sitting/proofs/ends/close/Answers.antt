-- `sitting::ends::close` meets its contract: no line, or the last one. Assumes nothing.
use borrow.Author.Rules.{rules}
use native.Mathlib.Omega.{arith}
use mathlib.Core.Path.{◌≡◌, sym}
use lib.ListN.{length}
use lib.Seq.{length-take-le}
use Rattle.gather.proofs.RootLaws.{length-mapped}
use Rattle.sitting.proofs.EndLaws.{closes-none, closes-some}
use Rattle.sitting.proofs.ends.close.Goals as goal

pub returns-then-held-eq0 : goal.returns-then-held-eq0
returns-then-held-eq0 c = closes-none _ _ _ c.if-held-eq0.true

pub slice_bounds-line-end : goal.slice_bounds-line-end
slice_bounds-line-end c =
    let s = c.args.sitting in
    let long : length s.line ≡ 129 = search (rules, length-mapped, c.well_formed) in
    omega (arith, c.min-n.ensures)

pub slice_bounds-answer_line-end : goal.slice_bounds-answer_line-end
slice_bounds-answer_line-end c =
    let s = c.args.sitting in
    let long : length s.line ≡ 129 = search (rules, length-mapped, c.well_formed) in
    sym (length-take-le _ _ (omega (arith, c.min-n.ensures)))

pub returns : goal.returns
returns c =
    let s = c.args in
    let long : length s.sitting.line ≡ 129 = search (rules, length-mapped, c.well_formed) in
    closes-some s.sitting s.tree.now _ s.out.now _ _ _ long c.if-held-eq0.false c.min-n.ensures c.answer_line.ensures
