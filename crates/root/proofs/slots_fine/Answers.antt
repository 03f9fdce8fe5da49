use native.Mathlib.Omega.{arith}
use mathlib.Core.Path.{sym, ap, ◌∙◌}
use Rattle.record.specs.Standing.{is_dummy, is_proper}
use Rattle.record.specs.Order.{before}
use Rattle.root.proofs.Slots.{fine-starts, fine-dummy, fine-record, strange-place, earlier-place, fine-ends}
use Rattle.root.proofs.slots_fine.Goals as goal
use Rattle.root.proofs.slots_fine.Goals.{then-not-is_proper-via-then-not-is_proper, then-not-is_proper-via-else-not-is_proper+then-not-no_later}
use Rattle.root.proofs.slots_fine.Goals.{then-not-is_dummy+else-not-is_proper+else-not-no_later, else-not-is_dummy}

pub loop-i-init : goal.loop-i-init
loop-i-init c = fine-starts c.args.slots.now _ _

pub returns-then-not-is_proper : goal.returns-then-not-is_proper
returns-then-not-is_proper c =
    let s = c.args in
    let e = ap is_dummy (sym c.read-x.ensures) ∙ sym c.is_dummy.ensures ∙ c.if-not-is_dummy.true in
    let f = ap (is_proper s.rule) (sym c.read-x.ensures) ∙ sym c.is_proper.ensures in
    sym (elim c.then-not-is_proper.branch [
      | then-not-is_proper-via-then-not-is_proper w ↦ strange-place s.slots.now s.rule s.least c.loop-i.i c.loop-i.count (omega arith) s.live e (f ∙ w.if-not-is_proper.true)
      | then-not-is_proper-via-else-not-is_proper+then-not-no_later w ↦
          let g = ap (before s.rule s.least) (sym c.read-x.ensures) ∙ sym (w.no_later.ensures s.rule) ∙ w.if-not-no_later.true in
          earlier-place s.slots.now s.rule s.least c.loop-i.i c.loop-i.count (omega arith) s.live e g
    ])

pub overflow_add-count : goal.overflow_add-count
overflow_add-count c =
    omega (arith, c.loop-i.invariant.few, c.loop-i.invariant.place)

pub loop-i-preserved : goal.loop-i-preserved
loop-i-preserved c =
    let s = c.args in
    let d = ap is_dummy (sym c.read-x.ensures) ∙ sym c.is_dummy.ensures in
    elim c.if-not-is_dummy.branch [
      | then-not-is_dummy+else-not-is_proper+else-not-no_later w ↦
          let p = ap (is_proper s.rule) (sym c.read-x.ensures) ∙ sym w.is_proper.ensures ∙ w.if-not-is_proper.false in
          let l = ap (before s.rule s.least) (sym c.read-x.ensures) ∙ sym (w.no_later.ensures s.rule) ∙ w.if-not-no_later.false in
          rw w.count-is (fine-record s.slots.now s.rule s.least c.loop-i.i c.loop-i.count (omega arith) c.loop-i.invariant (d ∙ w.if-not-is_dummy.true) p l)
      | else-not-is_dummy w ↦
          rw w.count-is (fine-dummy s.slots.now s.rule s.least c.loop-i.i c.loop-i.count (omega arith) c.loop-i.invariant (d ∙ w.if-not-is_dummy.false))
    ]

pub returns : goal.returns
returns c =
    let s = c.args in
    sym (fine-ends s.slots.now s.rule s.least c.loop-i.i c.loop-i.count s.live c.loop-i.invariant (omega arith))
