use mathlib.Core.Path.{refl}
use Rattle.refusal.proofs.ReasonLaws.{some-number}
use Rattle.card.specs.Calls.{withdrawn}
use Rattle.card.proofs.AnswerLaws.{told-refused, told-done}
use Rattle.card.proofs.Card.withdraw.Goals as goal

pub returns-in-Err : goal.returns-in-Err
returns-in-Err c =
    rw c.refuse.ensures (told-refused c.args.self _ _ (withdrawn c.args.self) (rw c.in-Err.is at c.why.ensures) (some-number c.in-Err.reason))

pub returns : goal.returns
returns c = told-done c.args.self _ _ (withdrawn c.args.self) (rw c.in_default.is at c.why.ensures) refl refl
