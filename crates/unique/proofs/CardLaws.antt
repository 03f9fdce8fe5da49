-- The calls of `card` leave one outcome: the card, the answer, and every place of the list or every fetched word.
-- Assumes nothing.
use mathlib.Core.Path.{refl}
use Rattle.unique.specs.One.{Determines}
use Rattle.unique.proofs.OneLaws.{one-answer}
use Rattle.card.proofs.Card.fresh.Kinds as fresh-kinds
use Rattle.card.proofs.Card.fresh.Reads as fresh
use Rattle.card.proofs.Card.start.Kinds as start-kinds
use Rattle.card.proofs.Card.start.Reads as start
use Rattle.card.proofs.Card.begin.Kinds as begin-kinds
use Rattle.card.proofs.Card.begin.Reads as begin
use Rattle.card.proofs.Card.find_min.Kinds as find-min-kinds
use Rattle.card.proofs.Card.find_min.Reads as find-min
use Rattle.card.proofs.Card.finish.Kinds as finish-kinds
use Rattle.card.proofs.Card.finish.Reads as finish
use Rattle.card.proofs.Card.withdraw.Kinds as withdraw-kinds
use Rattle.card.proofs.Card.withdraw.Reads as withdraw

pub one-fresh : Determines 0 fresh-kinds.ps fresh-kinds.r fresh.Asked fresh.Learnt
one-fresh =
    one-answer 0 fresh-kinds.ps fresh-kinds.r fresh.Asked fresh.Learnt _ _
    (λ κs a ok x xs f p. (p, refl))

pub one-start : Determines 0 start-kinds.ps start-kinds.r start.Asked start.Learnt
one-start =
    one-answer 0 start-kinds.ps start-kinds.r start.Asked start.Learnt _ _
    (λ κs a ok x xs f p. (p.whole, refl))

pub one-begin : Determines 1 begin-kinds.ps begin-kinds.r begin.Asked begin.Learnt
one-begin =
    one-answer 1 begin-kinds.ps begin-kinds.r begin.Asked begin.Learnt _ _
    (λ κs a ok x xs f p. (p.call.whole, λ i. (tt, (tt, (p.places i, tt)))))

pub one-find-min : Determines 0 find-min-kinds.ps find-min-kinds.r find-min.Asked find-min.Learnt
one-find-min =
    one-answer 0 find-min-kinds.ps find-min-kinds.r find-min.Asked find-min.Learnt _ _
    (λ κs a ok x xs f p. (p.whole, refl))

pub one-finish : Determines 1 finish-kinds.ps finish-kinds.r finish.Asked finish.Learnt
one-finish =
    one-answer 1 finish-kinds.ps finish-kinds.r finish.Asked finish.Learnt _ _
    (λ κs a ok x xs f p. (p.call.whole, λ i. (tt, (p.words i, tt))))

pub one-withdraw : Determines 0 withdraw-kinds.ps withdraw-kinds.r withdraw.Asked withdraw.Learnt
one-withdraw =
    one-answer 0 withdraw-kinds.ps withdraw-kinds.r withdraw.Asked withdraw.Learnt _ _
    (λ κs a ok x xs f p. (p.whole, refl))
