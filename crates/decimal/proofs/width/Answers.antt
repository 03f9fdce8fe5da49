-- `decimal::width` meets its contract. Assumes nothing.
use native.Mathlib.Omega.{arith}
use Rattle.decimal.proofs.WidthLaws.{width-found}
use Rattle.decimal.proofs.width.Goals as goal

pub returns : goal.returns
returns c = width-found _ _ c.ilog10.ensures.bound (omega arith) (omega arith)
