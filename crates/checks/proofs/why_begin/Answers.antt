use mathlib.Core.Path.{sym, ◌∙◌}
use Rattle.std.proofs.lemmas.Result.{err_from_is_err_and}
use Rattle.record.specs.Words.{records}
use Rattle.refusal.proofs.ReasonLaws.{some-number}
use Rattle.checks.proofs.CheckLaws.{idle-range, begin-busy, begin-fault, begin-room}
use Rattle.checks.proofs.why_begin.Goals as goal

pub returns-in_err-why_busy : goal.returns-in_err-why_busy
returns-in_err-why_busy c =
    let s = c.args in
    let p = err_from_is_err_and c.from_residual.result c.from_residual.ensures.1 in
    rw (p.1, p.2) (begin-busy _ s.card.now.parts (records s.card.now.root) s.card.now.waiting s.request s.room (some-number c.in_err-why_busy.field-0.0) c.in_err-why_busy.ensures)

pub why_request-requires : goal.why_request-requires
why_request-requires c =
    let s = c.args in
    (idle-range s.card.now.parts (records s.card.now.root) s.card.now.waiting c.in_ok-why_busy.ensures).tree.height.1

pub returns-in_err-why_request : goal.returns-in_err-why_request
returns-in_err-why_request c =
    let s = c.args in
    let p = err_from_is_err_and c.from_residual-in_err-why_request.result c.from_residual-in_err-why_request.ensures.1 in
    rw (p.1, p.2) (begin-fault _ s.card.now.parts (records s.card.now.root) s.card.now.waiting s.request s.room c.in_ok-why_busy.ensures (some-number c.in_err-why_request.field-0.0) c.in_err-why_request.ensures)

pub is_list_longer-requires : goal.is_list_longer-requires
is_list_longer-requires c =
    let s = c.args in
    (idle-range s.card.now.parts (records s.card.now.root) s.card.now.waiting c.in_ok-why_busy.ensures).tree.height

pub returns-then-is_list_longer : goal.returns-then-is_list_longer
returns-then-is_list_longer c =
    let s = c.args in
    sym (begin-room _ s.card.now.parts (records s.card.now.root) s.card.now.waiting s.request s.room c.in_ok-why_busy.ensures c.in_ok-why_request.ensures
    ∙ rw (sym (rw c.job_of.ensures at c.is_list_longer.ensures) ∙ c.if-is_list_longer.true))

pub returns : goal.returns
returns c =
    let s = c.args in
    sym (begin-room _ s.card.now.parts (records s.card.now.root) s.card.now.waiting s.request s.room c.in_ok-why_busy.ensures c.in_ok-why_request.ensures
    ∙ rw (sym (rw c.job_of.ensures at c.is_list_longer.ensures) ∙ c.if-is_list_longer.false))
