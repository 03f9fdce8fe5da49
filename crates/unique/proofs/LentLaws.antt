-- The calls on a lent card leave one outcome: one answer, one card where it was lent, and one content of each lent slice. It is said of the definitions
-- that the contracts of `lent` cite, at what stands there afterwards, and then of each function, by its own contract; the law is the one that serves
-- all. Assumes nothing.
use Prim.Native.Nat.{ℕ}
use mathlib.Core.List.{List}
use mathlib.Core.Path.{◌≡◌, ap}
use Rattle.request.specs.declared.Request.{Request}
use Rattle.card.specs.declared.Card.{Card}
use Rattle.answers.specs.declared.Answer.{Answer}
use Rattle.card.specs.declared.Done.{Done}
use Rattle.card.specs.Answers.{Answered}
use Rattle.card.specs.Calls.{Begins}
use Rattle.card.specs.Finish.{Finishes}
use Rattle.lent.specs.Handed.{handed}
use Rattle.unique.specs.One.{Determines}
use Rattle.unique.proofs.OneLaws.{one-seen, one-answer}
use Rattle.lent.proofs.start.Kinds as start-kinds
use Rattle.lent.proofs.start.Reads as start
use Rattle.lent.proofs.begin.Kinds as begin-kinds
use Rattle.lent.proofs.begin.Reads as begin
use Rattle.lent.proofs.find_min.Kinds as find-min-kinds
use Rattle.lent.proofs.find_min.Reads as find-min
use Rattle.lent.proofs.withdraw.Kinds as withdraw-kinds
use Rattle.lent.proofs.withdraw.Reads as withdraw
use Rattle.lent.proofs.finish.Kinds as finish-kinds
use Rattle.lent.proofs.finish.Reads as finish

-- what stands where the card was lent and is answered, and the lent slice
module _ {left later : Card} {a b : Answer} where
  parts : handed left a ≡ handed later b → (left ≡ later) × (a ≡ b)
  parts e = (ap (λ (d : Done). d.card) e, ap (λ (d : Done). d.answer) e)

  -- start, FindMin, withdraw
  pub one-call :
      (k : Card) (number : ℕ) (done : Done) → Answered k number done (handed left a) → Answered k number done (handed later b)
      → (left ≡ later) × (a ≡ b)
  one-call k number done p q =
      parts (one-seen (λ (d : Done). Answered k number done d) (λ d. d) _ (λ d h. h.whole) (handed left a) (handed later b) p q)

  -- begin
  pub one-begin :
      (k : Card) (r : Request) (list after again : List ℕ) → Begins k r list after (handed left a)
      → Begins k r list again (handed later b) → ((left ≡ later) × (a ≡ b)) × (after ≡ again)
  one-begin k r list after again p q =
      let one =
      one-seen (λ (o : Done × List ℕ). Begins k r list o.1 o.0) (λ o. o) _ (λ o h i. (h.call.whole i, h.places i))
      (handed left a, after) (handed later b, again) p q in
      (parts (ap (λ o. o.0) one), ap (λ o. o.1) one)

  pub one-finish :
      (k : Card) (words after again : List ℕ) → Finishes k words after (handed left a) → Finishes k words again (handed later b)
      → ((left ≡ later) × (a ≡ b)) × (after ≡ again)
  one-finish k words after again p q =
      let one =
      one-seen (λ (o : Done × List ℕ). Finishes k words o.1 o.0) (λ o. o) _ (λ o h i. (h.call.whole i, h.words i))
      (handed left a, after) (handed later b, again) p q in
      (parts (ap (λ o. o.0) one), ap (λ o. o.1) one)

-- and of each function, by its own contract
pub one-lent-start : Determines 1 start-kinds.ps start-kinds.r start.Asked start.Learnt
one-lent-start =
    one-answer 1 start-kinds.ps start-kinds.r start.Asked start.Learnt _ _
    (λ κs a ok x xs f p. (λ i. (p.whole i).answer, λ i. ((p.whole i).card, (tt, (tt, (tt, (tt, tt)))))))

pub one-lent-begin : Determines 2 begin-kinds.ps begin-kinds.r begin.Asked begin.Learnt
one-lent-begin =
    one-answer 2 begin-kinds.ps begin-kinds.r begin.Asked begin.Learnt _ _
    (λ κs a ok x xs f p. (λ i. (p.call.whole i).answer, λ i. ((p.call.whole i).card, (tt, (p.places i, tt)))))

pub one-lent-find-min : Determines 1 find-min-kinds.ps find-min-kinds.r find-min.Asked find-min.Learnt
one-lent-find-min =
    one-answer 1 find-min-kinds.ps find-min-kinds.r find-min.Asked find-min.Learnt _ _
    (λ κs a ok x xs f p. (λ i. (p.whole i).answer, λ i. ((p.whole i).card, tt)))

pub one-lent-withdraw : Determines 1 withdraw-kinds.ps withdraw-kinds.r withdraw.Asked withdraw.Learnt
one-lent-withdraw =
    one-answer 1 withdraw-kinds.ps withdraw-kinds.r withdraw.Asked withdraw.Learnt _ _
    (λ κs a ok x xs f p. (λ i. (p.whole i).answer, λ i. ((p.whole i).card, tt)))

pub one-lent-finish : Determines 2 finish-kinds.ps finish-kinds.r finish.Asked finish.Learnt
one-lent-finish =
    one-answer 2 finish-kinds.ps finish-kinds.r finish.Asked finish.Learnt _ _
    (λ κs a ok x xs f p. (λ i. (p.call.whole i).answer, λ i. ((p.call.whole i).card, (p.words i, tt))))
