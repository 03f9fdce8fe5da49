-- The desk, from a request on both sides to a line of bytes, leaves one outcome: the answer, the desk, every word of the tree
-- and every byte of the slice that is printed to. Assumes nothing.
use mathlib.Core.Path.{refl}
use Rattle.rounds.proofs.RoundLaws.{comes-to}
use Rattle.unique.specs.One.{Determines}
use Rattle.unique.proofs.OneLaws.{one-answer}
use Rattle.rounds.proofs.play.Kinds as play-kinds
use Rattle.rounds.proofs.play.Reads as play
use Rattle.steps.proofs.unread_by.Kinds as unread-by-kinds
use Rattle.steps.proofs.unread_by.Reads as unread-by
use Rattle.steps.proofs.kept_by.Kinds as kept-by-kinds
use Rattle.steps.proofs.kept_by.Reads as kept-by
use Rattle.steps.proofs.told_by.Kinds as told-by-kinds
use Rattle.steps.proofs.told_by.Reads as told-by
use Rattle.steps.proofs.tree_words.Kinds as tree-words-kinds
use Rattle.steps.proofs.tree_words.Reads as tree-words
use Rattle.steps.proofs.used.Kinds as used-kinds
use Rattle.steps.proofs.used.Reads as used
use Rattle.asked.proofs.ask.Kinds as ask-kinds
use Rattle.asked.proofs.ask.Reads as ask
use Rattle.afresh.proofs.size.Kinds as size-kinds
use Rattle.afresh.proofs.size.Reads as size
use Rattle.afresh.proofs.min.Kinds as min-kinds
use Rattle.afresh.proofs.min.Reads as min
use Rattle.turns.proofs.step.Kinds as step-kinds
use Rattle.turns.proofs.step.Reads as step
use Rattle.said.proofs.print_said.Kinds as print-said-kinds
use Rattle.said.proofs.print_said.Reads as print-said
use Rattle.replies.proofs.print_reply.Kinds as print-reply-kinds
use Rattle.replies.proofs.print_reply.Reads as print-reply
use Rattle.replies.proofs.answer_line.Kinds as answer-line-kinds
use Rattle.replies.proofs.answer_line.Reads as answer-line

pub one-play : Determines 1 play-kinds.ps play-kinds.r play.Asked play.Learnt
one-play =
    one-answer 1 play-kinds.ps play-kinds.r play.Asked play.Learnt _ _
    (λ κs a ok x xs f p. ((comes-to _ _ _ _ _ p).0, λ i. (tt, (tt, ((comes-to _ _ _ _ _ p).1 i, tt)))))

pub one-unread-by : Determines 1 unread-by-kinds.ps unread-by-kinds.r unread-by.Asked unread-by.Learnt
one-unread-by =
    one-answer 1 unread-by-kinds.ps unread-by-kinds.r unread-by.Asked unread-by.Learnt _ _
    (λ κs a ok x xs f p. (λ i. (p i).reply, λ i. ((p i).desk, tt)))

pub one-kept-by : Determines 1 kept-by-kinds.ps kept-by-kinds.r kept-by.Asked kept-by.Learnt
one-kept-by =
    one-answer 1 kept-by-kinds.ps kept-by-kinds.r kept-by.Asked kept-by.Learnt _ _
    (λ κs a ok x xs f p. (λ i. (p i).reply, λ i. ((p i).desk, (tt, tt))))

pub one-told-by : Determines 1 told-by-kinds.ps told-by-kinds.r told-by.Asked told-by.Learnt
one-told-by =
    one-answer 1 told-by-kinds.ps told-by-kinds.r told-by.Asked told-by.Learnt _ _
    (λ κs a ok x xs f p. (λ i. (p i).reply, λ i. ((p i).desk, (tt, tt))))

pub one-tree-words : Determines 0 tree-words-kinds.ps tree-words-kinds.r tree-words.Asked tree-words.Learnt
one-tree-words =
    one-answer 0 tree-words-kinds.ps tree-words-kinds.r tree-words.Asked tree-words.Learnt _ _
    (λ κs a ok x xs f p. (p, refl))

pub one-used : Determines 0 used-kinds.ps used-kinds.r used.Asked used.Learnt
one-used =
    one-answer 0 used-kinds.ps used-kinds.r used.Asked used.Learnt _ _
    (λ κs a ok x xs f p. (p, refl))

pub one-ask : Determines 2 ask-kinds.ps ask-kinds.r ask.Asked ask.Learnt
one-ask =
    one-answer 2 ask-kinds.ps ask-kinds.r ask.Asked ask.Learnt _ _
    (λ κs a ok x xs f p. (λ i. (p.said i).reply, λ i. ((p.said i).desk, (tt, (p.lent i, tt)))))

pub one-size : Determines 2 size-kinds.ps size-kinds.r size.Asked size.Learnt
one-size =
    one-answer 2 size-kinds.ps size-kinds.r size.Asked size.Learnt _ _
    (λ κs a ok x xs f p. (λ i. (p.said i).reply, λ i. ((p.said i).desk, (tt, (tt, (tt, (tt, (p.lent i, tt))))))))

pub one-min : Determines 1 min-kinds.ps min-kinds.r min.Asked min.Learnt
one-min =
    one-answer 1 min-kinds.ps min-kinds.r min.Asked min.Learnt _ _
    (λ κs a ok x xs f p. (λ i. (p i).reply, λ i. ((p i).desk, tt)))

pub one-step : Determines 2 step-kinds.ps step-kinds.r step.Asked step.Learnt
one-step =
    one-answer 2 step-kinds.ps step-kinds.r step.Asked step.Learnt _ _
    (λ κs a ok x xs f p. (λ i. (p.said i).reply, λ i. ((p.said i).desk, (tt, (p.lent i, tt)))))

pub one-print-said : Determines 1 print-said-kinds.ps print-said-kinds.r print-said.Asked print-said.Learnt
one-print-said =
    one-answer 1 print-said-kinds.ps print-said-kinds.r print-said.Asked print-said.Learnt _ _
    (λ κs a ok x xs f p. (p.counted, λ i. (tt, (p.lent i, tt))))

pub one-print-reply : Determines 1 print-reply-kinds.ps print-reply-kinds.r print-reply.Asked print-reply.Learnt
one-print-reply =
    one-answer 1 print-reply-kinds.ps print-reply-kinds.r print-reply.Asked print-reply.Learnt _ _
    (λ κs a ok x xs f p. (p.counted, λ i. (tt, (p.lent i, tt))))

pub one-answer-line : Determines 4 answer-line-kinds.ps answer-line-kinds.r answer-line.Asked answer-line.Learnt
one-answer-line =
    one-answer 4 answer-line-kinds.ps answer-line-kinds.r answer-line.Asked answer-line.Learnt _ _
    (λ κs a ok x xs f p. (p.bytes.counted, λ i. (p.state i, (tt, (p.lent i, (p.bytes.lent i, tt))))))
