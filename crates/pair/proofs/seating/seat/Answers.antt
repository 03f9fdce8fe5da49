use native.Mathlib.Omega.{arith}
use mathlib.Core.Path.{sym, ap, ◌∙◌}
use borrow.Author.Tests.{lt-ltb, le-ltb}
use Rattle.record.specs.Words.{records}
use Rattle.record.proofs.WordsLaws.{records-written}
use Rattle.way.proofs.EvictLaws.{placed-is, placed_out}
use Rattle.pair.specs.PairWork.{seated}
use Rattle.pair.proofs.seating.seat.Goals as goal

pub write-requires : goal.write-requires
write-requires c = omega (arith, placed-is _ _ _ (sym c.in-Some.is ∙ c.lowest_dummy.ensures))

pub returns-in-Some : goal.returns-in-Some
unfolding seated
returns-in-Some c =
    let s = c.args in
    let place = c.in-Some.place in
    let (is, l) = placed-is _ _ place (sym c.in-Some.is ∙ c.lowest_dummy.ensures) in
    rw (is, lt-ltb place s.r l) (ap records c.write.ensures ∙ records-written s.w.now place s.new (omega arith))

pub returns-in_default : goal.returns-in_default
unfolding seated
returns-in_default c = rw (le-ltb _ _ (placed_out _ _ (sym c.in_default.is ∙ c.lowest_dummy.ensures)))
