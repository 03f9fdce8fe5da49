-- `is_borne`: of the records looked at so far none has the stamp. Assumes nothing.
use native.Mathlib.Omega.{arith}
use borrow.Author.Rules.{rules}
use mathlib.Core.Bool.{true, false}
use mathlib.Core.Path.{◌≡◌, sym, ◌∙◌}
use Rattle.record.specs.Many.{bears}
use Rattle.stamps.proofs.StampLaws.{borne-found, borne-turns, borne-ends}
use Rattle.stamps.proofs.is_borne.Goals as goal
use Rattle.stamps.proofs.is_borne.Goals.{else-eq-via-then-eq+else-not-is_dummy, else-eq-via-else-eq}

pub returns-then-not-is_dummy : goal.returns-then-not-is_dummy
unfolding bears
returns-then-not-is_dummy c =
    let own : bears c.args.stamp c.read-other.result ≡ true = search rules in
    borne-found _ _ _ (omega arith) (rw c.read-other.ensures at own) ∙ sym c.loop-i.invariant

pub loop-i-preserved : goal.loop-i-preserved
unfolding bears
loop-i-preserved c =
    let no : bears c.args.stamp c.read-other.result ≡ false = elim c.else-eq.branch [
      | else-eq-via-then-eq+else-not-is_dummy w ↦ search rules
      | else-eq-via-else-eq w ↦ search rules
    ] in
    c.loop-i.invariant ∙ borne-turns _ _ _ (omega arith) (rw c.read-other.ensures at no)

pub returns : goal.returns
returns c = borne-ends _ _ _ c.loop-i-test.false ∙ sym c.loop-i.invariant
