-- `lowest_dummy` meets its contract: `find` over the places tells what `seek` does. Assumes nothing.
use native.Mathlib.Omega.{arith}
use borrow.Author.Rules.{rules}
use borrow.Author.Tests.{tests}
use mathlib.Core.Bool.{true, false}
use mathlib.Core.Path.{◌≡◌}
use Rattle.std.proofs.lemmas.Iterator.{first_from_Range}
use Rattle.record.specs.Standing.{is_dummy}
use Rattle.record.specs.Words.{record_at}
use Rattle.way.proofs.EvictLaws.{first-placed}
use Rattle.root.proofs.lowest_dummy.Goals as goal

pub returns : goal.returns
returns c =
    let s = c.args in
    let ws = s.slots.now in
    first-placed is_dummy s.n ws c.min.result (omega (arith, c.min.ensures)) (omega (arith, c.min.ensures)) (λ l. omega (arith, c.min.ensures)) _
    (first_from_Range _ _ _ _ (λ i. is_dummy (record_at ws i) ≡ true) (λ i. is_dummy (record_at ws i) ≡ false) c.find.ensures.ran
    (λ x q k. search (rules, tests))
    (λ x q k. (search rules, search (rules, tests))))
