use mathlib.Core.Path.{refl}
use Rattle.refusal.proofs.ReasonLaws.{some-number}
use Rattle.card.proofs.PartsLaws.{listable-told, named-told}
use Rattle.card.proofs.BeginLaws.{begin-refused, may-list, begin-done}
use Rattle.card.proofs.Card.begin.Goals as goal

pub returns-in-Err : goal.returns-in-Err
returns-in-Err c =
    let s = c.args in
    rw c.refuse.ensures (begin-refused s.self s.request s.list.now _ (rw c.in-Err.is at c.why.ensures) (some-number c.in-Err.reason))

pub list_for-counts-requires : goal.list_for-counts-requires
list_for-counts-requires c =
    let s = c.args in
    listable-told s.self _ c.parts.ensures s.request _ c.job_of-job.ensures _ (may-list s.self s.request s.list.now _ (rw c.in_default.is at c.why.ensures) refl)

pub returns : goal.returns
returns c =
    let s = c.args in
    let named = named-told s.self _ c.parts.ensures s.request _ c.job_of-job.ensures s.list.now _ _ c.list_for-counts.ensures in
    rw c.begun.ensures (begin-done s.self s.request s.list.now _ (rw c.in_default.is at c.why.ensures) _ _ refl named)
