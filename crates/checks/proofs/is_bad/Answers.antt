use mathlib.Core.Path.{sym, ◌∙◌}
use Rattle.record.specs.Words.{records}
use Rattle.checks.proofs.CheckLaws.{parts-range}
use Rattle.checks.proofs.is_bad.Goals as goal

pub why_waiting-requires : goal.why_waiting-requires
why_waiting-requires c =
    let s = c.args in
    (parts-range s.card.now.parts (records s.card.now.root) (sym c.are_parts_bad.ensures ∙ c.if-are_parts_bad.false)).tree.height.1
