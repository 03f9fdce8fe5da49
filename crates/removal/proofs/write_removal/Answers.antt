use native.Mathlib.Omega.{arith}
use Rattle.settle.proofs.PreparedLaws.{stores-few}
use Rattle.removal.proofs.write_removal.Goals as goal

pub overflow_add-result : goal.overflow_add-result
overflow_add-result c =
    omega (arith, c.requires.1.1, stores-few c.args.sizes _ c.requires.0 c.write_path-stores.ensures.counted)

pub returns : goal.returns
returns c = record { whole = rw c.write_path-stores.ensures.counted; words = c.write_path-stores.ensures.words }
