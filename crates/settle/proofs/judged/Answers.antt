use mathlib.Core.Bool.{true, false}
use Prim.Native.Nat.{suc, ◌+◌}
use native.Mathlib.Omega.{arith}
use mathlib.Core.Path.{◌≡◌, sym, ◌∙◌}
use Rattle.judge.specs.BadParts.{bad_parts}
use Rattle.settle.specs.Left.{parts_after}
use Rattle.settle.specs.Settled.{judged}
use Rattle.settle.proofs.judged.Goals as goal

pub returns-then-comes_out_bad : goal.returns-then-comes_out_bad
unfolding judged
returns-then-comes_out_bad c =
    let s = c.args in
    let u : s.parts.t + 1 ≡ suc s.parts.t = omega arith in
    let b : bad_parts (parts_after s.parts s.next.c s.next.least) s.next.root ≡ true = sym (rw u at c.comes_out_bad.ensures) ∙ c.if-comes_out_bad.true in
    rw b

pub returns : goal.returns
unfolding judged
returns c =
    let s = c.args in
    let u : s.parts.t + 1 ≡ suc s.parts.t = omega arith in
    let b : bad_parts (parts_after s.parts s.next.c s.next.least) s.next.root ≡ false = sym (rw u at c.comes_out_bad.ensures) ∙ c.if-comes_out_bad.false in
    rw b
