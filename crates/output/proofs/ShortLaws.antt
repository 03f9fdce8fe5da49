-- No reply is longer than `reply_most`: a number in plain decimal has at most 20 digits. Assumes nothing.
use Prim.Native.Nat.{ℕ, zero, suc, ◌+◌, ◌*◌, ◌^◌, ◌≤◌}
use mathlib.Core.Bool.{true, false, cond}
use mathlib.Core.List.{List, [], ◌∷◌}
use mathlib.Core.Path.{◌≡◌}
use native.Mathlib.Omega.{arith}
use lib.Dec.{ltb}
use lib.ListN.{length, length-append}
use Rattle.std.specs.Prelude.{Option, Some, None}
use Rattle.decimal.specs.Digits.{fewest, decimal}
use Rattle.frames.specs.Answer.{mark_of, answer_line}
use Rattle.answers.specs.declared.Answer.{Answer}
use Rattle.answers.specs.declared.Answer.TheVariants.{Started, Listed, Least, Withdrawn, Inserted, Extracted, Deleted, Refused}
use Rattle.said.specs.Said.{numbers_of}
use Rattle.replies.specs.Reply.{bytes_of}
use Rattle.decimal.proofs.PrintLaws.{decimal-length}
use Rattle.output.specs.Room.{reply_most}

few : (more j n : ℕ) → fewest more j n ≤ j + more
unfolding fewest
few zero j n = omega arith
few (suc more) j n = (elim (ltb n (10 ^ j)) as (λ t. cond t j (fewest more (suc j) n) ≤ j + suc more) [
  | true ↦ omega arith
  | false ↦ omega (arith, few more (suc j) n)
])

number_short : (n : ℕ) → length (decimal n) ≤ 20
number_short n = omega (arith, decimal-length n, few 19 1 n)

next-long : (n : ℕ) (ns : List ℕ) → length (answer_line (n ∷ ns)) ≡ length (decimal n) + suc (length (answer_line ns))
unfolding answer_line
next-long n ns = length-append (decimal n) (mark_of ns ∷ answer_line ns)

numbers-short : (ns : List ℕ) → length (answer_line ns) ≤ 21 * length ns
unfolding answer_line
numbers-short [] = omega arith
numbers-short (n ∷ ns) = omega (arith, next-long n ns, number_short n, numbers-short ns)

-- an answer that begins with 0
zero_one : length (decimal 0) ≡ 1
unfolding fewest
zero_one = decimal-length 0

zero-short : (ns : List ℕ) → length ns ≤ 5 → length (answer_line (0 ∷ ns)) ≤ reply_most
zero-short ns l = omega (arith, next-long 0 ns, zero_one, numbers-short ns)

answer-short : (a : Answer) → length (answer_line (numbers_of a)) ≤ reply_most
answer-short Started = zero-short [] (omega arith)
answer-short (Listed n) = zero-short [] (omega arith)
answer-short (Least r words) = zero-short (r.key ∷ r.value ∷ r.label.0 ∷ r.stamp.0 ∷ words ∷ []) (omega arith)
answer-short Withdrawn = zero-short [] (omega arith)
answer-short (Inserted label stamp words) = zero-short (label.0 ∷ stamp.0 ∷ words ∷ []) (omega arith)
answer-short (Extracted r words) = zero-short (r.key ∷ r.value ∷ r.label.0 ∷ r.stamp.0 ∷ words ∷ []) (omega arith)
answer-short (Deleted found words) = zero-short (cond found 1 0 ∷ words ∷ []) (omega arith)
answer-short (Refused number) = omega (arith, numbers-short (number ∷ []))

pub reply-short : (r : Option Answer) → length (bytes_of r) ≤ reply_most
reply-short None = omega arith
reply-short (Some a) = answer-short a
