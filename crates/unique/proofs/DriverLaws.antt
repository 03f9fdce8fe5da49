-- The entrance for drivers leaves one outcome: the number, the words of the card, those of the answer, and every word of each
-- slice. Assumes nothing.
use mathlib.Core.Path.{refl}
use Rattle.unique.specs.One.{Determines}
use Rattle.unique.proofs.OneLaws.{one-answer}
use Rattle.driver.proofs.nwidarap_start.Kinds as start-kinds
use Rattle.driver.proofs.nwidarap_start.Reads as start
use Rattle.driver.proofs.nwidarap_insert.Kinds as insert-kinds
use Rattle.driver.proofs.nwidarap_insert.Reads as insert
use Rattle.driver.proofs.nwidarap_extract.Kinds as extract-kinds
use Rattle.driver.proofs.nwidarap_extract.Reads as extract
use Rattle.driver.proofs.nwidarap_delete.Kinds as delete-kinds
use Rattle.driver.proofs.nwidarap_delete.Reads as delete
use Rattle.driver.proofs.nwidarap_find_min.Kinds as find-min-kinds
use Rattle.driver.proofs.nwidarap_find_min.Reads as find-min
use Rattle.driver.proofs.nwidarap_withdraw.Kinds as withdraw-kinds
use Rattle.driver.proofs.nwidarap_withdraw.Reads as withdraw
use Rattle.driver.proofs.nwidarap_finish.Kinds as finish-kinds
use Rattle.driver.proofs.nwidarap_finish.Reads as finish
use Rattle.driver.proofs.nwidarap_fill.Kinds as fill-kinds
use Rattle.driver.proofs.nwidarap_fill.Reads as fill
use Rattle.driver.proofs.nwidarap_fetch.Kinds as fetch-kinds
use Rattle.driver.proofs.nwidarap_fetch.Reads as fetch
use Rattle.driver.proofs.nwidarap_store.Kinds as store-kinds
use Rattle.driver.proofs.nwidarap_store.Reads as store
use Rattle.told.proofs.say.Kinds as say-kinds
use Rattle.told.proofs.say.Reads as say
use Rattle.told.proofs.settle.Kinds as settle-kinds
use Rattle.told.proofs.settle.Reads as settle
use Rattle.told.proofs.tell.Kinds as tell-kinds
use Rattle.told.proofs.tell.Reads as tell
use Rattle.answers.proofs.number_of.Kinds as number-of-kinds
use Rattle.answers.proofs.number_of.Reads as number-of
use Rattle.answers.proofs.values_of.Kinds as values-of-kinds
use Rattle.answers.proofs.values_of.Reads as values-of
use Rattle.answers.proofs.answer_to.Kinds as answer-to-kinds
use Rattle.answers.proofs.answer_to.Reads as answer-to
use Rattle.held.proofs.card_of.Kinds as card-of-kinds
use Rattle.held.proofs.card_of.Reads as card-of
use Rattle.kinds.proofs.waiting_of.Kinds as waiting-of-kinds
use Rattle.kinds.proofs.waiting_of.Reads as waiting-of
use Rattle.kinds.proofs.request_words.Kinds as request-words-kinds
use Rattle.kinds.proofs.request_words.Reads as request-words
use Rattle.image.proofs.is_odd.Kinds as is-odd-kinds
use Rattle.image.proofs.is_odd.Reads as is-odd
use Rattle.image.proofs.read.Kinds as read-kinds
use Rattle.image.proofs.read.Reads as read
use Rattle.image.proofs.write.Kinds as write-kinds
use Rattle.image.proofs.write.Reads as write

pub one-start : Determines 2 start-kinds.ps start-kinds.r start.Asked start.Learnt
one-start =
    one-answer 2 start-kinds.ps start-kinds.r start.Asked start.Learnt _ _
    (λ κs a ok x xs f p. (p.said.number, λ i. (p.card i, (p.said.answer i, (tt, (tt, (tt, (tt, tt))))))))

pub one-insert : Determines 3 insert-kinds.ps insert-kinds.r insert.Asked insert.Learnt
one-insert =
    one-answer 3 insert-kinds.ps insert-kinds.r insert.Asked insert.Learnt _ _
    (λ κs a ok x xs f p. (p.call.said.number, λ i. (p.call.card i, (p.call.said.answer i, (tt, (tt, (tt, (tt, (tt, (p.places i, tt))))))))))

pub one-extract : Determines 3 extract-kinds.ps extract-kinds.r extract.Asked extract.Learnt
one-extract =
    one-answer 3 extract-kinds.ps extract-kinds.r extract.Asked extract.Learnt _ _
    (λ κs a ok x xs f p. (p.call.said.number, λ i. (p.call.card i, (p.call.said.answer i, (p.places i, tt)))))

pub one-delete : Determines 3 delete-kinds.ps delete-kinds.r delete.Asked delete.Learnt
one-delete =
    one-answer 3 delete-kinds.ps delete-kinds.r delete.Asked delete.Learnt _ _
    (λ κs a ok x xs f p. (p.call.said.number, λ i. (p.call.card i, (p.call.said.answer i, (tt, (tt, (p.places i, tt)))))))

pub one-find-min : Determines 2 find-min-kinds.ps find-min-kinds.r find-min.Asked find-min.Learnt
one-find-min =
    one-answer 2 find-min-kinds.ps find-min-kinds.r find-min.Asked find-min.Learnt _ _
    (λ κs a ok x xs f p. (p.number, λ i. (tt, (p.answer i, tt))))

pub one-withdraw : Determines 2 withdraw-kinds.ps withdraw-kinds.r withdraw.Asked withdraw.Learnt
one-withdraw =
    one-answer 2 withdraw-kinds.ps withdraw-kinds.r withdraw.Asked withdraw.Learnt _ _
    (λ κs a ok x xs f p. (p.said.number, λ i. (p.card i, (p.said.answer i, tt))))

pub one-finish : Determines 3 finish-kinds.ps finish-kinds.r finish.Asked finish.Learnt
one-finish =
    one-answer 3 finish-kinds.ps finish-kinds.r finish.Asked finish.Learnt _ _
    (λ κs a ok x xs f p. (p.call.said.number, λ i. (p.call.card i, (p.call.said.answer i, (p.words i, tt)))))

pub one-fill : Determines 2 fill-kinds.ps fill-kinds.r fill.Asked fill.Learnt
one-fill =
    one-answer 2 fill-kinds.ps fill-kinds.r fill.Asked fill.Learnt _ _
    (λ κs a ok x xs f p. (p.call.number, λ i. (p.call.answer i, (tt, (tt, (p.lent i, tt))))))

pub one-fetch : Determines 4 fetch-kinds.ps fetch-kinds.r fetch.Asked fetch.Learnt
one-fetch =
    one-answer 4 fetch-kinds.ps fetch-kinds.r fetch.Asked fetch.Learnt _ _
    (λ κs a ok x xs f p. (p.call.number, λ i. (p.call.answer i, (tt, (tt, (tt, (tt, (tt, (tt, (p.lent i, tt))))))))))

pub one-store : Determines 4 store-kinds.ps store-kinds.r store.Asked store.Learnt
one-store =
    one-answer 4 store-kinds.ps store-kinds.r store.Asked store.Learnt _ _
    (λ κs a ok x xs f p. (p.call.number, λ i. (p.call.answer i, (tt, (tt, (tt, (tt, (tt, (tt, (p.lent i, tt))))))))))

pub one-say : Determines 1 say-kinds.ps say-kinds.r say.Asked say.Learnt
one-say =
    one-answer 1 say-kinds.ps say-kinds.r say.Asked say.Learnt _ _
    (λ κs a ok x xs f p. (p.number, λ i. (tt, (p.answer i, tt))))

pub one-settle : Determines 2 settle-kinds.ps settle-kinds.r settle.Asked settle.Learnt
one-settle =
    one-answer 2 settle-kinds.ps settle-kinds.r settle.Asked settle.Learnt _ _
    (λ κs a ok x xs f p. (p.said.number, λ i. (tt, (p.card i, (p.said.answer i, tt)))))

pub one-tell : Determines 1 tell-kinds.ps tell-kinds.r tell.Asked tell.Learnt
one-tell =
    one-answer 1 tell-kinds.ps tell-kinds.r tell.Asked tell.Learnt _ _
    (λ κs a ok x xs f p. (p.number, λ i. (tt, (p.answer i, tt))))

pub one-answer-to : Determines 0 answer-to-kinds.ps answer-to-kinds.r answer-to.Asked answer-to.Learnt
one-answer-to =
    one-answer 0 answer-to-kinds.ps answer-to-kinds.r answer-to.Asked answer-to.Learnt _ _
    (λ κs a ok x xs f p. (p, refl))

pub one-number-of : Determines 0 number-of-kinds.ps number-of-kinds.r number-of.Asked number-of.Learnt
one-number-of =
    one-answer 0 number-of-kinds.ps number-of-kinds.r number-of.Asked number-of.Learnt _ _
    (λ κs a ok x xs f p. (p, refl))

pub one-values-of : Determines 0 values-of-kinds.ps values-of-kinds.r values-of.Asked values-of.Learnt
one-values-of =
    one-answer 0 values-of-kinds.ps values-of-kinds.r values-of.Asked values-of.Learnt _ _
    (λ κs a ok x xs f p. (p, refl))

pub one-waiting-of : Determines 0 waiting-of-kinds.ps waiting-of-kinds.r waiting-of.Asked waiting-of.Learnt
one-waiting-of =
    one-answer 0 waiting-of-kinds.ps waiting-of-kinds.r waiting-of.Asked waiting-of.Learnt _ _
    (λ κs a ok x xs f p. (p, refl))

pub one-request-words : Determines 0 request-words-kinds.ps request-words-kinds.r request-words.Asked request-words.Learnt
one-request-words =
    one-answer 0 request-words-kinds.ps request-words-kinds.r request-words.Asked request-words.Learnt _ _
    (λ κs a ok x xs f p. (p, refl))

pub one-card-of : Determines 1 card-of-kinds.ps card-of-kinds.r card-of.Asked card-of.Learnt
one-card-of =
    one-answer 1 card-of-kinds.ps card-of-kinds.r card-of.Asked card-of.Learnt _ _
    (λ κs a ok x xs f p. (p, refl))

pub one-is-odd : Determines 1 is-odd-kinds.ps is-odd-kinds.r is-odd.Asked is-odd.Learnt
one-is-odd =
    one-answer 1 is-odd-kinds.ps is-odd-kinds.r is-odd.Asked is-odd.Learnt _ _
    (λ κs a ok x xs f p. (p, refl))

pub one-read : Determines 1 read-kinds.ps read-kinds.r read.Asked read.Learnt
one-read =
    one-answer 1 read-kinds.ps read-kinds.r read.Asked read.Learnt _ _
    (λ κs a ok x xs f p. (p, refl))

pub one-write : Determines 1 write-kinds.ps write-kinds.r write.Asked write.Learnt
one-write =
    one-answer 1 write-kinds.ps write-kinds.r write.Asked write.Learnt _ _
    (λ κs a ok x xs f p. (refl, λ i. (tt, (p i, tt))))
