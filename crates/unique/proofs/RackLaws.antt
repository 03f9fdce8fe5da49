-- The calls of `rack`, the copies under them and the numbers of refusals leave one outcome: the answer, which is known by its number, and every word
-- of the tree or of what is fetched. Assumes nothing.
use mathlib.Core.Path.{refl}
use Rattle.refusal.specs.Reason.{refusal_in}
use Rattle.refusal.proofs.ReasonLaws.{one-outcome}
use Rattle.unique.specs.One.{Determines}
use Rattle.unique.proofs.OneLaws.{one-answer, one-known}
use Rattle.refusal.proofs.Reason.number.Kinds as reason-number-kinds
use Rattle.refusal.proofs.Reason.number.Reads as reason-number
use Rattle.refusal.proofs.number_of.Kinds as refusal-number-kinds
use Rattle.refusal.proofs.number_of.Reads as refusal-number
use Rattle.copies.proofs.tree_words.Kinds as tree-words-kinds
use Rattle.copies.proofs.tree_words.Reads as tree-words
use Rattle.copies.proofs.fill_dummies.Kinds as fill-dummies-kinds
use Rattle.copies.proofs.fill_dummies.Reads as fill-dummies
use Rattle.copies.proofs.fetch_listed.Kinds as fetch-listed-kinds
use Rattle.copies.proofs.fetch_listed.Reads as fetch-listed
use Rattle.copies.proofs.store_listed.Kinds as store-listed-kinds
use Rattle.copies.proofs.store_listed.Reads as store-listed
use Rattle.rack.proofs.fill.Kinds as fill-kinds
use Rattle.rack.proofs.fill.Reads as fill
use Rattle.rack.proofs.fetch.Kinds as fetch-kinds
use Rattle.rack.proofs.fetch.Reads as fetch
use Rattle.rack.proofs.store.Kinds as store-kinds
use Rattle.rack.proofs.store.Reads as store

pub one-tree-words : Determines 0 tree-words-kinds.ps tree-words-kinds.r tree-words.Asked tree-words.Learnt
one-tree-words =
    one-answer 0 tree-words-kinds.ps tree-words-kinds.r tree-words.Asked tree-words.Learnt _ _
    (λ κs a ok x xs f p. (p, refl))

pub one-fill-dummies : Determines 1 fill-dummies-kinds.ps fill-dummies-kinds.r fill-dummies.Asked fill-dummies.Learnt
one-fill-dummies =
    one-answer 1 fill-dummies-kinds.ps fill-dummies-kinds.r fill-dummies.Asked fill-dummies.Learnt _ _
    (λ κs a ok x xs f p. (refl, λ i. (p i, tt)))

pub one-fetch-listed : Determines 3 fetch-listed-kinds.ps fetch-listed-kinds.r fetch-listed.Asked fetch-listed.Learnt
one-fetch-listed =
    one-answer 3 fetch-listed-kinds.ps fetch-listed-kinds.r fetch-listed.Asked fetch-listed.Learnt _ _
    (λ κs a ok x xs f p. (refl, λ i. (tt, (tt, (tt, (tt, (tt, (p i, tt))))))))

pub one-store-listed : Determines 3 store-listed-kinds.ps store-listed-kinds.r store-listed.Asked store-listed.Learnt
one-store-listed =
    one-answer 3 store-listed-kinds.ps store-listed-kinds.r store-listed.Asked store-listed.Learnt _ _
    (λ κs a ok x xs f p. (refl, λ i. (tt, (p i, (tt, (tt, (tt, tt)))))))

pub one-reason-number : Determines 0 reason-number-kinds.ps reason-number-kinds.r reason-number.Asked reason-number.Learnt
one-reason-number =
    one-answer 0 reason-number-kinds.ps reason-number-kinds.r reason-number.Asked reason-number.Learnt _ _
    (λ κs a ok x xs f p. (p, refl))

pub one-refusal-number : Determines 0 refusal-number-kinds.ps refusal-number-kinds.r refusal-number.Asked refusal-number.Learnt
one-refusal-number =
    one-answer 0 refusal-number-kinds.ps refusal-number-kinds.r refusal-number.Asked refusal-number.Learnt _ _
    (λ κs a ok x xs f p. (p, refl))

pub one-fill : Determines 1 fill-kinds.ps fill-kinds.r fill.Asked fill.Learnt
one-fill =
    one-known 1 fill-kinds.ps fill-kinds.r fill.Asked fill.Learnt (λ κs. refusal_in) _ _ (λ κs. one-outcome)
    (λ κs a ok x xs f p. (p.number, λ i. (p.lent i, (tt, (tt, tt)))))

pub one-fetch : Determines 3 fetch-kinds.ps fetch-kinds.r fetch.Asked fetch.Learnt
one-fetch =
    one-known 3 fetch-kinds.ps fetch-kinds.r fetch.Asked fetch.Learnt (λ κs. refusal_in) _ _ (λ κs. one-outcome)
    (λ κs a ok x xs f p. (p.number, λ i. (tt, (tt, (tt, (tt, (tt, (tt, (p.lent i, tt)))))))))

pub one-store : Determines 3 store-kinds.ps store-kinds.r store.Asked store.Learnt
one-store =
    one-known 3 store-kinds.ps store-kinds.r store.Asked store.Learnt (λ κs. refusal_in) _ _ (λ κs. one-outcome)
    (λ κs a ok x xs f p. (p.number, λ i. (tt, (tt, (p.lent i, (tt, (tt, (tt, (tt, tt)))))))))
