use mathlib.Core.Path.{refl, sym}
use Rattle.refusal.proofs.ReasonLaws.{some-number}
use Rattle.card.proofs.FinishLaws.{some-waits, checked-ready, checked-clock}
use Rattle.card.proofs.PartsLaws.{finishable-told, settled-told}
use Rattle.card.proofs.FinishedLaws.{entry-refused, request-damaged, request-done}
use Rattle.card.proofs.Card.finish.Goals as goal

pub returns-in-Err : goal.returns-in-Err
returns-in-Err c =
    let s = c.args in
    rw c.refuse.ensures (entry-refused s.self s.words.now _ (rw c.in-Err.is at c.why.ensures) (some-number c.in-Err.reason))

pub returns-in_default-waiting : goal.returns-in_default-waiting
returns-in_default-waiting c =
    let s = c.args in
    absurd (some-waits s.self _ (sym (rw c.in_default.is at c.why.ensures)) c.in_default-waiting.is)

pub settle_job-requires : goal.settle_job-requires
settle_job-requires c =
    let s = c.args in
    finishable-told s.self _ c.parts-parts.ensures c.in-Some.request _ c.job_of.ensures s.words.now (checked-ready s.self s.words.now _ c.in-Some.is _ (rw c.in_default.is at c.why.ensures) refl)

pub returns-in_default-settle_job : goal.returns-in_default-settle_job
returns-in_default-settle_job c =
    let s = c.args in
    let out = settled-told s.self _ c.parts-parts.ensures c.in-Some.request _ c.job_of.ensures s.words.now _ _ c.settle_job.ensures in
    request-damaged s.self s.words.now _ c.in-Some.is (sym (rw c.in_default.is at c.why.ensures)) _ _ out _ _ c.in_default-settle_job.is c.refuse-in_default-settle_job.ensures

pub done_with-requires : goal.done_with-requires
done_with-requires c =
    let s = c.args in
    checked-clock s.self s.words.now _ c.in-Some.is _ (rw c.in_default.is at c.why.ensures) refl

pub returns : goal.returns
returns c =
    let s = c.args in
    let out = settled-told s.self _ c.parts-parts.ensures c.in-Some.request _ c.job_of.ensures s.words.now _ _ c.settle_job.ensures in
    request-done s.self s.words.now _ c.in-Some.is (sym (rw c.in_default.is at c.why.ensures)) _ _ out _ _ c.in-Ok.is c.done_with.ensures
