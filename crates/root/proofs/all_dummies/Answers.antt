use native.Mathlib.Omega.{arith}
use borrow.Author.Rules.{rules}
use borrow.Author.Tests.{tests}
use Prim.Native.Nat.{◌/◌}
use mathlib.Core.Path.{◌∙◌}
use lib.ListN.{length}
use Rattle.std.proofs.lemmas.Iterator.{YieldsList-from_range}
use Rattle.std.proofs.lemmas.Iterator.Search.{all_from_yields_List}
use Rattle.record.specs.Standing.{is_dummy}
use Rattle.record.specs.Words.{record_at}
use Rattle.root.proofs.Slots.{places-all}
use Rattle.root.proofs.all_dummies.Goals as goal

pub returns : goal.returns
returns c =
    let ws = c.args.places.now in
    let n = length ws / 4 in
    all_from_yields_List (λ k. is_dummy (record_at ws k)) _ _ _ c.all.ensures.ran (YieldsList-from_range 0 n n (search rules) (omega arith)) (λ x b q k. search (rules, tests))
    ∙ places-all is_dummy ws 0 n (omega arith)
