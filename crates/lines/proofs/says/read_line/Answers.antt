-- `lines::says::read_line` meets its contract. A word after the other is compared. Assumes nothing.
use native.Mathlib.Omega.{arith}
use mathlib.Core.Path.{refl, sym, ◌∙◌}
use Prim.Native.Nat.{◌≤◌}
use lib.ListN.{length}
use lib.Seq.{length-take-le}
use Rattle.lines.specs.Says.{min_kind, extract_kind, said_by}
use Rattle.lines.proofs.SaysLaws.{over-long, word_fits, line-said, said-alone}
use Rattle.lines.proofs.says.read_line.Goals as goal

pub returns-then-line-gt-LINE_MOST : goal.returns-then-line-gt-LINE_MOST
returns-then-line-gt-LINE_MOST c = over-long c.args.line.now (omega arith)

pub slice_bounds-word-end : goal.slice_bounds-word-end
slice_bounds-word-end c =
    let fits : c.end_of-end.result ≤ length c.args.line.now = word_fits _ _ c.end_of-end.ensures in
    let line = c.args.line.now in
    sym (length-take-le _ line fits)

pub returns-then-same : goal.returns-then-same
unfolding said_by
returns-then-same c =
    c.size.ensures ∙ sym (line-said c.args.line.now _ c.end_of-end.ensures (omega arith) ∙ rw (sym c.same.ensures ∙ c.if-same.true))

pub returns-then-same-2 : goal.returns-then-same-2
unfolding said_by
returns-then-same-2 c =
    c.insert.ensures ∙ sym (line-said c.args.line.now _ c.end_of-end.ensures (omega arith) ∙ rw (sym c.same.ensures ∙ c.if-same.false, sym c.same-2.ensures ∙ c.if-same-2.true))

pub returns-then-same-3 : goal.returns-then-same-3
unfolding said_by
returns-then-same-3 c =
    c.alone.ensures ∙ said-alone _ _ min_kind refl ∙ sym (line-said c.args.line.now _ c.end_of-end.ensures (omega arith) ∙ rw (sym c.same.ensures ∙ c.if-same.false, sym c.same-2.ensures ∙ c.if-same-2.false, sym c.same-3.ensures ∙ c.if-same-3.true))

pub returns-then-same-4 : goal.returns-then-same-4
unfolding said_by
returns-then-same-4 c =
    c.alone-then-same-4.ensures ∙ said-alone _ _ extract_kind refl ∙ sym (line-said c.args.line.now _ c.end_of-end.ensures (omega arith) ∙ rw (sym c.same.ensures ∙ c.if-same.false, sym c.same-2.ensures ∙ c.if-same-2.false, sym c.same-3.ensures ∙ c.if-same-3.false, sym c.same-4.ensures ∙ c.if-same-4.true))

pub returns-then-same-5 : goal.returns-then-same-5
unfolding said_by
returns-then-same-5 c =
    c.delete.ensures ∙ sym (line-said c.args.line.now _ c.end_of-end.ensures (omega arith) ∙ rw (sym c.same.ensures ∙ c.if-same.false, sym c.same-2.ensures ∙ c.if-same-2.false, sym c.same-3.ensures ∙ c.if-same-3.false, sym c.same-4.ensures ∙ c.if-same-4.false, sym c.same-5.ensures ∙ c.if-same-5.true))

pub returns : goal.returns
unfolding said_by
returns c =
    sym (line-said c.args.line.now _ c.end_of-end.ensures (omega arith) ∙ rw (sym c.same.ensures ∙ c.if-same.false, sym c.same-2.ensures ∙ c.if-same-2.false, sym c.same-3.ensures ∙ c.if-same-3.false, sym c.same-4.ensures ∙ c.if-same-4.false, sym c.same-5.ensures ∙ c.if-same-5.false))
