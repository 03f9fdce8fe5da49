-- `fields::numbers` meets its contract. Assumes nothing.
use mathlib.Core.Path.{ap, ◌∙◌}
use lib.ListN.{drop, length-replicate}
use Rattle.fields.specs.Behind.{behind, numbered}
use Rattle.fields.proofs.NumbersLaws.{numbered-read}
use Rattle.fields.proofs.numbers.Goals as goal

pub returns : goal.returns
returns g c =
    c.then_some.ensures
    ∙ numbered-read _ _ _ _ c.read_numbers.ensures
    ∙ ap (λ n. numbered n (behind (drop c.args.from c.args.line.now))) (length-replicate g.row.N 0)
