use borrow.Author.Rules.{rules}
use mathlib.Core.List.{List}
use mathlib.Core.Path.{◌≡◌, refl, ap, ◌∙◌}
use lib.ListN.{length}
use Rattle.record.specs.declared.Record.{Record}
use Rattle.gather.proofs.RootLaws.{length-mapped}
use Rattle.refusal.specs.Refusal.{first_given}
use Rattle.checks.specs.Checks.{bad_with, call_rows}
use Rattle.checks.proofs.CheckLaws.{root-loaded}
use Rattle.checks.proofs.why.Goals as goal

pub returns : goal.returns
returns c =
    let s = c.args in
    let long : length s.root ≡ 64 = search (rules, length-mapped, c.well_formed) in
    c.why_call.ensures ∙ ap (λ (l : List Record). first_given (call_rows (bad_with s.parts l s.waiting) s.parts l s.waiting s.call)) (root-loaded _ _ s.root c.load_root.ensures long refl)
