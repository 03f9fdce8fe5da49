-- `copies::layout::tree_words` meets its contract: a tree of sizes in range is small. Assumes nothing.
use native.Mathlib.Omega.{arith}
use Rattle.path.proofs.SizesLaws.{tree-in}
use Rattle.copies.proofs.LayoutLaws.{leaves-few, tree-small}
use Rattle.copies.proofs.layout.tree_words.Goals as goal

pub bucket_words-requires : goal.bucket_words-requires
bucket_words-requires c = omega (arith, tree-in _ _ c.requires)

pub leaves-requires : goal.leaves-requires
leaves-requires c = omega (arith, tree-in _ _ c.requires)

pub overflow_mul-result : goal.overflow_mul-result
overflow_mul-result c = omega (arith, leaves-few _ (tree-in _ _ c.requires).height.1)

pub overflow_sub-result : goal.overflow_sub-result
overflow_sub-result c = omega (arith, leaves-few _ (tree-in _ _ c.requires).height.1)

pub overflow_mul-result-2 : goal.overflow_mul-result-2
overflow_mul-result-2 c =
    rw (c.bucket_words.ensures, c.leaves.ensures) (omega (arith, tree-small _ _ c.requires))

pub returns : goal.returns
returns c = rw (c.bucket_words.ensures, c.leaves.ensures)
