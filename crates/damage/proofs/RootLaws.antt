-- The root's least record, judged by its slots and by the first least records of its paths. Assumes nothing.
use Prim.Native.Nat.{ℕ, ◌+◌, ◌*◌, ◌-◌, ◌≤◌}
use mathlib.Core.Bool.{Bool}
use mathlib.Core.List.{List, [], ◌∷◌}
use mathlib.Core.Path.{◌≡◌, sym, ◌∙◌}
use native.Mathlib.Omega.{arith}
use lib.ListN.{length}
use Rattle.record.specs.declared.Record.{Record}
use Rattle.record.specs.declared.Rule.{Rule}
use Rattle.record.specs.Standing.{dummy, same}
use Rattle.record.specs.Order.{smaller, smallest, smallest_by}
use Rattle.record.specs.Words.{record_at}
use Rattle.record.proofs.WordsLaws.{records-at}
use Rattle.least.specs.Least.{over}
use Rattle.least.proofs.LeastLaws.{smallest-over}
use Rattle.gather.specs.Shown.{whole_at}
use Rattle.sound.specs.Fetched.{shown_in, beside_in}
use Rattle.damage.specs.Damaged.{root_true}

pub first-shown : (z : ℕ) (path : List ℕ) → 4 ≤ length path → record_at path 0 ≡ (shown_in z path 1).least
unfolding whole_at
first-shown z path room =
    let e : (1 - 1) * (z + 1) ≡ 0 = omega arith in
    rw e (sym (records-at path 0 dummy (omega arith)))

pub first-beside : (sibs : List ℕ) → 4 ≤ length sibs → record_at sibs 0 ≡ beside_in sibs 1
first-beside sibs room = sym (records-at sibs 0 dummy (omega arith))

pub kids-two : (rule : Rule) (lower upper last kid : Record) → last ≡ smaller rule upper dummy → kid ≡ smaller rule lower last
    → kid ≡ smallest rule (lower ∷ upper ∷ [])
unfolding smallest_by
kids-two rule lower upper last kid el e = e ∙ rw el

pub root-true : (rule : Rule) (slots kids : List Record) (least kid given : Record) (verdict : Bool) → kid ≡ smallest rule kids
    → given ≡ over rule slots kid → verdict ≡ same least given → verdict ≡ root_true rule least slots kids
root-true rule slots kids least kid given verdict ek eg e = e ∙ rw (eg, ek, smallest-over)
