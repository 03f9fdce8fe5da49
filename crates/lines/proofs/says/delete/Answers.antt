-- `lines::says::delete` meets its contract. The numbers behind the word say it, or nothing does. Assumes nothing.
use mathlib.Core.Path.{sym, ◌∙◌}
use Rattle.lines.specs.Says.{delete_kind}
use Rattle.lines.proofs.SaysLaws.{said, unsaid}
use Rattle.lines.proofs.says.delete.Goals as goal

pub returns-in_default : goal.returns-in_default
returns-in_default c = unsaid delete_kind _ (sym c.in_default.is ∙ c.numbers.ensures)

pub returns : goal.returns
returns c = said delete_kind _ _ (sym c.in-Some.is ∙ c.numbers.ensures)
