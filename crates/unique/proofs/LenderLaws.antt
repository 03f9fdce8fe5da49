-- The calls of `lender` leave one outcome, as those of `card` do. Assumes nothing.
use mathlib.Core.Path.{refl}
use Rattle.unique.specs.One.{Determines}
use Rattle.unique.proofs.OneLaws.{one-answer}
use Rattle.lender.proofs.start.Kinds as start-kinds
use Rattle.lender.proofs.start.Reads as start
use Rattle.lender.proofs.begin.Kinds as begin-kinds
use Rattle.lender.proofs.begin.Reads as begin
use Rattle.lender.proofs.find_min.Kinds as find-min-kinds
use Rattle.lender.proofs.find_min.Reads as find-min
use Rattle.lender.proofs.finish.Kinds as finish-kinds
use Rattle.lender.proofs.finish.Reads as finish
use Rattle.lender.proofs.withdraw.Kinds as withdraw-kinds
use Rattle.lender.proofs.withdraw.Reads as withdraw

pub one-start : Determines 0 start-kinds.ps start-kinds.r start.Asked start.Learnt
one-start =
    one-answer 0 start-kinds.ps start-kinds.r start.Asked start.Learnt _ _
    (λ κs a ok x xs f p. (p.whole, refl))

pub one-begin : Determines 1 begin-kinds.ps begin-kinds.r begin.Asked begin.Learnt
one-begin =
    one-answer 1 begin-kinds.ps begin-kinds.r begin.Asked begin.Learnt _ _
    (λ κs a ok x xs f p. (p.call.whole, λ i. (tt, (tt, (p.places i, tt)))))

pub one-find-min : Determines 0 find-min-kinds.ps find-min-kinds.r find-min.Asked find-min.Learnt
one-find-min =
    one-answer 0 find-min-kinds.ps find-min-kinds.r find-min.Asked find-min.Learnt _ _
    (λ κs a ok x xs f p. (p.whole, refl))

pub one-finish : Determines 1 finish-kinds.ps finish-kinds.r finish.Asked finish.Learnt
one-finish =
    one-answer 1 finish-kinds.ps finish-kinds.r finish.Asked finish.Learnt _ _
    (λ κs a ok x xs f p. (p.call.whole, λ i. (tt, (p.words i, tt))))

pub one-withdraw : Determines 0 withdraw-kinds.ps withdraw-kinds.r withdraw.Asked withdraw.Learnt
one-withdraw =
    one-answer 0 withdraw-kinds.ps withdraw-kinds.r withdraw.Asked withdraw.Learnt _ _
    (λ κs a ok x xs f p. (p.whole, refl))
