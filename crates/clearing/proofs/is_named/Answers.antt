-- `is_named` meets its contract: the tests are those of `named`, in another order. Assumes nothing.
use mathlib.Core.Bool.{not, and-true}
use mathlib.Core.Path.{◌∙◌, sym, ap}
use Rattle.clearing.specs.Removal.{named}
use Rattle.clearing.proofs.is_named.Goals as goal
use Rattle.clearing.proofs.is_named.Goals.{then-eq, else-eq}

pub returns-then-eq-2 : goal.returns-then-eq-2
unfolding named
returns-then-eq-2 c =
    elim c.if-eq.branch [
      | then-eq w ↦
          let stamps = sym c.eq.ensures ∙ w.if-eq.true in
          let labels = sym w.eq-then-eq.ensures ∙ sym w.value-is ∙ c.if-eq-2.true in
          rw (labels, stamps, and-true) (ap not c.is_dummy.ensures)
      | else-eq w ↦ cc
    ]
