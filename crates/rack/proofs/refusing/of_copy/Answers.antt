-- `rack::refusing::of_copy` meets its contract: fill's rows, then a return for each other row, the counts in two. Assumes nothing.
use native.Mathlib.Omega.{arith}
use mathlib.Core.Path.{sym, ◌∙◌}
use borrow.Author.Tests.{ltb-false}
use Rattle.std.proofs.lemmas.Result.{err_from_is_err_and}
use Rattle.path.proofs.SizesLaws.{tree-in}
use Rattle.refusal.proofs.ReasonLaws.{some-number}
use Rattle.rack.proofs.RefusalLaws.{fill-passes, tree-first, refuses-counts, refuses-words, refuses-buckets, passes-copy}
use Rattle.rack.proofs.refusing.of_copy.Goals as goal
use Rattle.rack.proofs.refusing.of_copy.Goals.{then-whole-list-via-then-whole-list, then-whole-list-via-else-whole-list+then-least-list}

pub returns-in_err-of_fill : goal.returns-in_err-of_fill
returns-in_err-of_fill c =
    let p = err_from_is_err_and c.from_residual.result c.from_residual.ensures.1 in
    rw (p.1, p.2) (tree-first c.args.h c.args.z c.args.tree _ _ (some-number _) c.in_err-of_fill.ensures)

pub returns-then-whole-list : goal.returns-then-whole-list
returns-then-whole-list c =
    let p = fill-passes _ _ _ (sym c.in_ok-of_fill.ensures) in
    let s = c.args in
    refuses-counts p s.list.now s.whole s.least s.words (elim c.then-whole-list.branch [
      | then-whole-list-via-then-whole-list w ↦ omega (arith, w.if-whole-list.true)
      | then-whole-list-via-else-whole-list+then-least-list w ↦ omega (arith, w.if-least-list.true)
    ])

pub few_words-requires : goal.few_words-requires
few_words-requires c =
    let p = fill-passes _ _ _ (sym c.in_ok-of_fill.ensures) in
    omega (arith, tree-in _ _ p.sizes)

pub returns-then-few_words : goal.returns-then-few_words
returns-then-few_words c =
    let p = fill-passes _ _ _ (sym c.in_ok-of_fill.ensures) in
    let s = c.args in
    refuses-words p s.list.now s.whole s.least s.words (omega arith) (sym c.few_words.ensures ∙ c.if-few_words.true)

pub any_outside-requires : goal.any_outside-requires
any_outside-requires c =
    let p = fill-passes _ _ _ (sym c.in_ok-of_fill.ensures) in
    omega (arith, tree-in _ _ p.sizes)

pub returns-then-any_outside : goal.returns-then-any_outside
returns-then-any_outside c =
    let p = fill-passes _ _ _ (sym c.in_ok-of_fill.ensures) in
    let s = c.args in
    refuses-buckets p s.list.now s.whole s.least s.words (omega arith)
    (sym c.few_words.ensures ∙ c.if-few_words.false) (sym c.any_outside.ensures ∙ c.if-any_outside.true)

pub returns : goal.returns
returns c =
    let p = fill-passes _ _ _ (sym c.in_ok-of_fill.ensures) in
    sym (passes-copy _ _ _ _ _ _ _ (record {
      passes = p;
      counted = omega arith;
      room = ltb-false _ _ (sym c.few_words.ensures ∙ c.if-few_words.false);
      inside = sym c.any_outside.ensures ∙ c.if-any_outside.false;
    }))
