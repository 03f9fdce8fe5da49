use borrow.Author.Rules.{rules}
use mathlib.Core.List.{List}
use mathlib.Core.Path.{◌≡◌, ap, ◌∙◌}
use lib.ListN.{length}
use Rattle.record.specs.declared.Record.{Record}
use Rattle.record.specs.Words.{records}
use Rattle.judge.specs.BadParts.{bad_parts}
use Rattle.gather.proofs.RootLaws.{length-mapped, root-laid}
use Rattle.settle.proofs.comes_out_bad.Goals as goal

pub returns : goal.returns
returns c =
    let s = c.args in
    let long : length s.root ≡ 64 = search (rules, length-mapped) in
    c.are_parts_bad.ensures ∙ ap (λ (l : List Record). bad_parts s.parts l) (ap records c.load_root.ensures ∙ root-laid _ s.root long (search rules))
