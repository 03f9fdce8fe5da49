use native.Mathlib.Omega.{arith}
use Prim.Native.Nat.{suc, ◌+◌, ◌*◌}
use mathlib.Core.Path.{◌≡◌}
use lib.ListN.{length-set}
use Rattle.record.proofs.Record.write.Goals as goal

pub bounds-words-at-2 : goal.bounds-words-at-2
bounds-words-at-2 c = simp length-set (omega arith)

pub bounds-words-at-3 : goal.bounds-words-at-3
bounds-words-at-3 c = simp length-set (omega arith)

pub bounds-words-at-4 : goal.bounds-words-at-4
bounds-words-at-4 c = simp length-set (omega arith)

pub returns : goal.returns
returns c =
    let at = 4 * c.args.place in
    let one : at + 1 ≡ suc at = omega arith in
    let two : at + 2 ≡ suc (suc at) = omega arith in
    let three : at + 3 ≡ suc (suc (suc at)) = omega arith in
    rw (one, two, three)
