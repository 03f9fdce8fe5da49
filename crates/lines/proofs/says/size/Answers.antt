-- `lines::says::size` meets its contract. The numbers behind the word say it, or nothing does. Assumes nothing.
use mathlib.Core.Path.{sym, ◌∙◌}
use Rattle.lines.specs.Says.{size_kind}
use Rattle.lines.proofs.SaysLaws.{said, unsaid}
use Rattle.lines.proofs.says.size.Goals as goal

pub returns-in_default : goal.returns-in_default
returns-in_default c = unsaid size_kind _ (sym c.in_default.is ∙ c.numbers.ensures)

pub returns : goal.returns
returns c = said size_kind _ _ (sym c.in-Some.is ∙ c.numbers.ensures)
