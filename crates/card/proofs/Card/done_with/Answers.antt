use Prim.Native.Nat.{suc, ◌+◌}
use mathlib.Core.Path.{◌≡◌, ap}
use native.Mathlib.Omega.{arith}
use Rattle.parts.specs.declared.Parts.{Parts}
use Rattle.answers.specs.Answers.{answer_to}
use Rattle.card.specs.Finish.{done_with}
use Rattle.card.proofs.Card.done_with.Goals as goal

pub returns : goal.returns
returns c =
    let s = c.args in
    let u : s.self.t + 1 ≡ suc s.self.t = omega arith in
    rw (u, c.answer_to-answer.ensures) (ap (λ (p : Parts). record { card = (done_with s.self s.request s.out).card; answer = answer_to p s.request s.out.found s.out.moved }) c.parts.ensures)
