-- `decimal::read` meets its contract. The loop: `Scanning`. Assumes nothing.
use borrow.Author.Rules.{rules}
use native.Mathlib.Omega.{arith}
use borrow.Author.Tests.{eqb-false}
use mathlib.Core.Path.{sym, ◌∙◌}
use Rattle.decimal.proofs.FieldLaws.{scanning-starts, scanning-turns, scanning-ends, refused-empty, refused-zero, refused-at, refused_over}
use Rattle.decimal.proofs.read.Goals as goal

pub returns-then-is_empty : goal.returns-then-is_empty
returns-then-is_empty c = refused-empty c.args.field.now (search rules)

pub returns-then-leading_zero : goal.returns-then-leading_zero
returns-then-leading_zero c = refused-zero _ (search rules)

pub loop-b-init : goal.loop-b-init
loop-b-init c = scanning-starts _

pub returns-then-not-is_ascii_digit : goal.returns-then-not-is_ascii_digit
returns-then-not-is_ascii_digit c =
    refused-at _ _ _ c.loop-b.invariant c.loop-b-test.true (sym c.is_ascii_digit.ensures.value ∙ c.if-not-is_ascii_digit.true)

pub returns-in_err-checked_mul : goal.returns-in_err-checked_mul
returns-in_err-checked_mul c =
    let no = rw c.in_err-checked_mul.was at c.checked_mul.ensures in
    c.from_residual.ensures ∙ refused_over _ _ _ c.loop-b.invariant c.loop-b-test.true (omega arith)

pub returns-in_err-n : goal.returns-in_err-n
returns-in_err-n c =
    let is = rw c.in_ok-checked_mul.was at c.checked_mul.ensures in
    let no = rw c.in_err-n.was at c.checked_add.ensures in
    c.from_residual-in_err-n.ensures ∙ refused_over _ _ _ c.loop-b.invariant c.loop-b-test.true (omega arith)

pub loop-b-preserved : goal.loop-b-preserved
loop-b-preserved c =
    let is = sym c.is_ascii_digit.ensures.value ∙ c.if-not-is_ascii_digit.false in
    let ten = rw c.in_ok-checked_mul.was at c.checked_mul.ensures in
    let next = rw c.in_ok-n.was at c.checked_add.ensures in
    scanning-turns _ _ _ c.loop-b.invariant c.loop-b-test.true is _ (omega arith) (omega arith)

pub returns : goal.returns
returns c =
    scanning-ends _ _ _ c.loop-b.invariant c.loop-b-test.false (eqb-false _ _ (sym c.is_empty.ensures ∙ c.if-is_empty.false)) (search rules)
