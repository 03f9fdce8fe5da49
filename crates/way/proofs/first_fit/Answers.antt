-- `first_fit`: `find` over the places tells what `seek` does. Assumes nothing.
use native.Mathlib.Omega.{arith}
use borrow.Author.Rules.{rules}
use borrow.Author.Tests.{tests}
use Prim.Native.Nat.{◌-◌, ◌/◌, ◌^◌}
use mathlib.Core.Bool.{true, false}
use mathlib.Core.Path.{◌≡◌}
use Rattle.std.proofs.lemmas.Iterator.{first_from_Range}
use Rattle.record.specs.Words.{record_at}
use Rattle.way.proofs.EvictLaws.{first-placed, agrees, agrees-fits}
use Rattle.way.proofs.first_fit.Goals as goal

pub returns : goal.returns
unfolding agrees
returns c =
    let s = c.args in
    let ws = s.w.now in
    let below = s.sizes.h - s.level in
    let f = agrees below (s.leaf.0 / 2 ^ below) in
    rw (agrees-fits s.sizes.h s.leaf s.level (omega arith)) at
    (first-placed f s.lo ws s.lo (omega arith) (omega arith) (λ l. omega arith) _
    (first_from_Range _ _ _ _ (λ i. f (record_at ws i) ≡ true) (λ i. f (record_at ws i) ≡ false) c.find.ensures.ran
    (λ x q k. search (rules, tests))
    (λ x q k. (search rules, search (rules, tests)))))
