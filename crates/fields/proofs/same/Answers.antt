-- `fields::same` meets its contract. Assumes nothing.
use mathlib.Core.Path.{◌∙◌}
use Rattle.fields.proofs.PiecesLaws.{same-pointwise}
use Rattle.fields.proofs.same.Goals as goal

pub returns : goal.returns
returns c = c.eq.ensures ∙ same-pointwise _ _
