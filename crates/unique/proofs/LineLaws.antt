-- Numbers, lines and answers in bytes leave one outcome. Assumes nothing.
use Prim.Native.Nat.{ℕ}
use mathlib.Core.List.{List, ◌++◌}
use mathlib.Core.Path.{◌≡◌, refl, ◌∙◌, ap}
use lib.ListN.{length, take, drop}
use mir.Syntax.{w64}
use mir.Val.{Fits}
use Rattle.frames.specs.declared.Taken.{Taken}
use Rattle.frames.specs.Framing.{kept_of, Takes}
use Rattle.unique.specs.One.{Determines}
use Rattle.unique.proofs.OneLaws.{one-answer}
use Rattle.decimal.proofs.read.Kinds as read-kinds
use Rattle.decimal.proofs.read.Reads as read
use Rattle.decimal.proofs.width.Kinds as width-kinds
use Rattle.decimal.proofs.width.Reads as width
use Rattle.decimal.proofs.print.Kinds as print-kinds
use Rattle.decimal.proofs.print.Reads as print
use Rattle.fields.proofs.end_of.Kinds as end-of-kinds
use Rattle.fields.proofs.end_of.Reads as end-of
use Rattle.fields.proofs.same.Kinds as same-kinds
use Rattle.fields.proofs.same.Reads as same
use Rattle.fields.proofs.read_numbers.Kinds as read-numbers-kinds
use Rattle.fields.proofs.read_numbers.Reads as read-numbers
use Rattle.fields.proofs.numbers.Kinds as numbers-kinds
use Rattle.fields.proofs.numbers.Reads as numbers
use Rattle.lines.proofs.read_line.Kinds as read-line-kinds
use Rattle.lines.proofs.read_line.Reads as read-line
use Rattle.frames.proofs.print_answer.Kinds as print-answer-kinds
use Rattle.frames.proofs.print_answer.Reads as print-answer
use Rattle.frames.proofs.print_unreadable.Kinds as print-unreadable-kinds
use Rattle.frames.proofs.print_unreadable.Reads as print-unreadable
use Rattle.frames.proofs.take_line.Kinds as take-line-kinds
use Rattle.frames.proofs.take_line.Reads as take-line

-- how many bytes are held is known, and so what stays behind them
kept-lent :
    (buffer : List ℕ) (old : ℕ) (chunk : List ℕ) (from : ℕ) (r : Taken) (after : List ℕ) → Takes buffer old chunk from r after
    → after ≡ kept_of (length buffer) (take old buffer) (drop from chunk) ++ drop (length (kept_of (length buffer) (take old buffer) (drop from chunk))) buffer
kept-lent buffer old chunk from r after p =
    p.lent ∙ ap (λ (n : ℕ). kept_of (length buffer) (take old buffer) (drop from chunk) ++ drop n buffer) p.held

pub one-read : Determines 1 read-kinds.ps read-kinds.r read.Asked read.Learnt
one-read =
    one-answer 1 read-kinds.ps read-kinds.r read.Asked read.Learnt _ _
    (λ κs a ok x xs f p. (p, refl))

pub one-width : Determines 0 width-kinds.ps width-kinds.r width.Asked width.Learnt
one-width =
    one-answer 0 width-kinds.ps width-kinds.r width.Asked width.Learnt _ _
    (λ κs a ok x xs f p. (p, refl))

pub one-print : Determines 1 print-kinds.ps print-kinds.r print.Asked print.Learnt
one-print =
    one-answer 1 print-kinds.ps print-kinds.r print.Asked print.Learnt _ _
    (λ κs a ok x xs f p. (p.counted, λ i. (tt, (p.lent i, tt))))

pub one-end-of : Determines 1 end-of-kinds.ps end-of-kinds.r end-of.Asked end-of.Learnt
one-end-of =
    one-answer 1 end-of-kinds.ps end-of-kinds.r end-of.Asked end-of.Learnt _ _
    (λ κs a ok x xs f p. (p, refl))

pub one-same : Determines 2 same-kinds.ps same-kinds.r same.Asked same.Learnt
one-same =
    one-answer 2 same-kinds.ps same-kinds.r same.Asked same.Learnt _ _
    (λ κs a ok x xs f p. (p, refl))

pub one-read-numbers : Determines 2 read-numbers-kinds.ps read-numbers-kinds.r read-numbers.Asked read-numbers.Learnt
one-read-numbers =
    one-answer 2 read-numbers-kinds.ps read-numbers-kinds.r read-numbers.Asked read-numbers.Learnt _ _
    (λ κs a ok x xs f p. (p.told, λ i. (tt, (tt, (p.these i, tt)))))

-- of any count of numbers
module _ (count : ℕ) (fits : Fits w64 count) where
  pub one-numbers : Determines 2 (numbers-kinds.ps count fits) (numbers-kinds.r count fits) (numbers.Asked count fits) (numbers.Learnt count fits)
  one-numbers =
      one-answer 2 (numbers-kinds.ps count fits) (numbers-kinds.r count fits) (numbers.Asked count fits)
      (numbers.Learnt count fits) _ _
      (λ κs a ok x xs f p. (p, refl))

pub one-read-line : Determines 1 read-line-kinds.ps read-line-kinds.r read-line.Asked read-line.Learnt
one-read-line =
    one-answer 1 read-line-kinds.ps read-line-kinds.r read-line.Asked read-line.Learnt _ _
    (λ κs a ok x xs f p. (p, refl))

pub one-print-answer : Determines 2 print-answer-kinds.ps print-answer-kinds.r print-answer.Asked print-answer.Learnt
one-print-answer =
    one-answer 2 print-answer-kinds.ps print-answer-kinds.r print-answer.Asked print-answer.Learnt _ _
    (λ κs a ok x xs f p. (p.counted, λ i. (tt, (p.lent i, tt))))

pub one-print-unreadable : Determines 1 print-unreadable-kinds.ps print-unreadable-kinds.r print-unreadable.Asked print-unreadable.Learnt
one-print-unreadable =
    one-answer 1 print-unreadable-kinds.ps print-unreadable-kinds.r print-unreadable.Asked print-unreadable.Learnt _ _
    (λ κs a ok x xs f p. (p.counted, λ i. (p.lent i, tt)))

pub one-take-line : Determines 2 take-line-kinds.ps take-line-kinds.r take-line.Asked take-line.Learnt
one-take-line =
    one-answer 2 take-line-kinds.ps take-line-kinds.r take-line.Asked take-line.Learnt _ _
    (λ κs a ok x xs f p. (λ i. record { next = p.next i; held = p.held i; ended = p.ended i }, λ i. (kept-lent _ _ _ _ _ _ p i, (tt, (tt, (tt, tt))))))
