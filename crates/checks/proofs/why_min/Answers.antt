use mathlib.Core.Path.{sym, ◌∙◌}
use Rattle.std.proofs.lemmas.Result.{err_from_is_err_and}
use borrow.Author.Tests.{eq-eqb, ne_eqb}
use Rattle.record.specs.Words.{records}
use Rattle.refusal.proofs.ReasonLaws.{some-number}
use Rattle.checks.proofs.CheckLaws.{min-busy, min-empty}
use Rattle.checks.proofs.why_min.Goals as goal

pub returns-in_err-why_busy : goal.returns-in_err-why_busy
returns-in_err-why_busy c =
    let s = c.args in
    let p = err_from_is_err_and c.from_residual.result c.from_residual.ensures.1 in
    rw (p.1, p.2) (min-busy _ s.card.now.parts (records s.card.now.root) s.card.now.waiting (some-number c.in_err-why_busy.field-0.0) c.in_err-why_busy.ensures)

pub returns-then-card-eq0 : goal.returns-then-card-eq0
returns-then-card-eq0 c =
    let s = c.args in
    sym (min-empty _ s.card.now.parts (records s.card.now.root) s.card.now.waiting c.in_ok-why_busy.ensures ∙ rw (eq-eqb s.card.now.parts.c 0 c.if-card-eq0.true))

pub returns : goal.returns
returns c =
    let s = c.args in
    sym (min-empty _ s.card.now.parts (records s.card.now.root) s.card.now.waiting c.in_ok-why_busy.ensures ∙ rw (ne_eqb s.card.now.parts.c 0 c.if-card-eq0.false))
