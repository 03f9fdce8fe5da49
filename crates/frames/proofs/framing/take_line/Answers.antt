-- `frames::framing::take_line` meets its contract. What is kept is what was held and what was appended. Assumes nothing.
use Rattle.std.proofs.Common.{◌≡◌, ◌+◌, ◌-◌, refl, sym, ◌∙◌, arith, drop, length-drop, length-take-le}
use Rattle.fields.proofs.PiecesLaws.{rest-of}
use Rattle.frames.proofs.TakeLaws.{enough-left, one-of, next-within, takes-line}
use Rattle.frames.proofs.framing.take_line.Goals as goal

pub slice_bounds-copy_from_slice-end-2 : goal.slice_bounds-copy_from_slice-end-2
slice_bounds-copy_from_slice-end-2 c =
    sym (length-take-le _ _ (enough-left c.args.buffer.now c.args.held _ _ _ _ c.end_of-size.ensures c.min-old.ensures c.min-more.ensures))

pub copy_from_slice-requires : goal.copy_from_slice-requires
copy_from_slice-requires c =
    let n : c.min-old.result + c.min-more.result - c.min-old.result ≡ c.min-more.result = omega arith in
    length-take-le _ (drop c.min-old.result c.args.buffer.now) (omega (arith, length-drop c.min-old.result c.args.buffer.now))
    ∙ n
    ∙ sym (length-take-le _ _ (enough-left c.args.buffer.now c.args.held _ _ _ _ c.end_of-size.ensures c.min-old.ensures c.min-more.ensures))

pub overflow_add-result : goal.overflow_add-result
overflow_add-result c =
    let rest = rest-of c.args.chunk.now c.args.from _ _ _ c.get.ensures.lookup c.unwrap_or-rest.ensures refl in
    omega (arith, next-within c.args.buffer.now c.args.held _ _ _ _ c.end_of-size.ensures c.min-old.ensures c.min-more.ensures c.args.chunk.now c.args.from rest _ refl)

pub overflow_add-result-2 : goal.overflow_add-result-2
overflow_add-result-2 c =
    let rest = rest-of c.args.chunk.now c.args.from _ _ _ c.get.ensures.lookup c.unwrap_or-rest.ensures refl in
    omega (arith, next-within c.args.buffer.now c.args.held _ _ _ _ c.end_of-size.ensures c.min-old.ensures c.min-more.ensures c.args.chunk.now c.args.from rest _ (c.from.ensures ∙ one-of _))

pub returns : goal.returns
returns c =
    let rest = rest-of c.args.chunk.now c.args.from _ _ _ c.get.ensures.lookup c.unwrap_or-rest.ensures refl in
    takes-line _ _ _ _ _ _ c.end_of-size.ensures c.min-old.ensures c.min-more.ensures _ _ rest _ c.copy_from_slice.ensures.after _ (c.from.ensures ∙ one-of _)
