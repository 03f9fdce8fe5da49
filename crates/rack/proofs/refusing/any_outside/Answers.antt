-- `rack::refusing::any_outside` meets its contract: its test is `outside`. Assumes nothing.
use Rattle.std.proofs.Common.{rules, tests, ◌*◌, ◌||◌, ltb, leb}
use Rattle.std.proofs.lemmas.Iterator.{YieldsList-from_slice}
use Rattle.std.proofs.lemmas.Iterator.Search.{any_from_yields_List}
use mathlib.Core.Path.{◌∙◌}
use Rattle.rack.proofs.RefusalLaws.{any-listed}
use Rattle.rack.proofs.refusing.any_outside.Goals as goal

pub returns : goal.returns
returns c =
    any_from_yields_List (λ n. ltb n 2 || leb (2 * c.leaves.result) n) _ _ c.any.result c.any.ensures.ran
    (YieldsList-from_slice c.args.numbers.now cc) (λ x b q k. search (rules, tests))
    ∙ rw c.leaves.ensures (any-listed c.args.h c.args.numbers.now)
