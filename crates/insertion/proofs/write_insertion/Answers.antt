use native.Mathlib.Omega.{arith}
use Rattle.insertion.proofs.StoreLaws.{stores-fit, pair-written}
use Rattle.insertion.proofs.write_insertion.Goals as goal

pub overflow_add-result : goal.overflow_add-result
overflow_add-result c =
    let s = c.args in
    omega (arith, c.requires.1, stores-fit s.sizes s.words.now s.one.now s.two.now c.requires.0 _ _ c.write_path-lower.ensures.counted c.write_path-upper.ensures.counted)

pub returns : goal.returns
returns c =
    let s = c.args in
    pair-written s.sizes s.words.now _ _ s.one.now s.two.now _ _ s.out c.requires.0 c.write_path-lower.ensures c.write_path-upper.ensures
