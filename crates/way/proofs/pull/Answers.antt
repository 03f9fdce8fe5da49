-- `pull`: a real slot, no record that fits, or a move made by two stores. Assumes nothing.
use native.Mathlib.Omega.{arith}
use mathlib.Core.Path.{sym, ap, ◌∙◌}
use lib.ListN.{length}
use Rattle.record.specs.Words.{records}
use Rattle.record.proofs.WordsLaws.{length-written}
use Rattle.way.proofs.EvictLaws.{placed-is, pull-real, pull-none, pull-moves}
use Rattle.way.proofs.pull.Goals as goal

pub returns-then-not-is_dummy : goal.returns-then-not-is_dummy
returns-then-not-is_dummy c =
    let s = c.args in
    let real = rw c.read.ensures at (sym c.is_dummy.ensures ∙ c.if-not-is_dummy.true) in
    pull-real _ s.lo s.place s.w.now (omega arith) real

pub read-found-requires : goal.read-found-requires
read-found-requires c =
    omega (arith, c.requires.lo_in_bounds, placed-is _ _ _ (sym c.in-Some.is ∙ c.first_fit.ensures))

pub write-requires-in-Some : goal.write-requires-in-Some
write-requires-in-Some c =
    let s = c.args in
    let long = ap length c.write.ensures ∙ length-written s.w.now s.place c.read-found.result in
    omega (arith, long, c.requires.lo_in_bounds, placed-is _ _ _ (sym c.in-Some.is ∙ c.first_fit.ensures))

pub returns-in-Some : goal.returns-in-Some
returns-in-Some c =
    let s = c.args in
    let void = rw c.read.ensures at (sym c.is_dummy.ensures ∙ c.if-not-is_dummy.false) in
    let room = c.requires.lo_in_bounds in
    ap records c.write-in-Some.ensures
    ∙ rw (c.write.ensures, c.read-found.ensures)
    (pull-moves _ s.lo s.place s.w.now room.1 c.in-Some.from void (sym c.in-Some.is ∙ c.first_fit.ensures) room.0)

pub returns-in_default : goal.returns-in_default
returns-in_default c =
    let s = c.args in
    pull-none _ s.lo s.place s.w.now (omega arith) (sym c.in_default.is ∙ c.first_fit.ensures)
