-- `find` meets its contract: `find` over the places tells what `seek` does. Assumes nothing.
use native.Mathlib.Omega.{arith}
use borrow.Author.Rules.{rules}
use borrow.Author.Tests.{tests}
use Prim.Native.Nat.{◌/◌}
use lib.ListN.{length}
use mathlib.Core.Bool.{true, false}
use mathlib.Core.Path.{◌≡◌}
use Rattle.std.proofs.lemmas.Iterator.{first_from_Range}
use Rattle.record.specs.Words.{record_at}
use Rattle.record.proofs.WordsLaws.{records-count}
use Rattle.way.proofs.EvictLaws.{first-placed}
use Rattle.clearing.specs.Removal.{named}
use Rattle.clearing.proofs.find.Goals as goal

pub returns : goal.returns
returns c =
    let s = c.args in
    let ws = s.w.now in
    let f = named s.label s.stamp in
    let n = length ws / 4 in
    rw records-count
    (first-placed f n ws n (omega arith) (omega arith) (λ l. omega arith) _
    (first_from_Range _ _ _ _ (λ i. f (record_at ws i) ≡ true) (λ i. f (record_at ws i) ≡ false) c.find.ensures.ran
    (λ x q k. search (rules, tests))
    (λ x q k. (search rules, search (rules, tests)))))
