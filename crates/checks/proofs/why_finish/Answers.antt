use mathlib.Core.Path.{sym, ◌∙◌}
use Rattle.record.specs.Words.{records}
use Rattle.checks.proofs.CheckLaws.{good-range}
use Rattle.checks.proofs.why_finish.Goals as goal

pub are_words_more-requires : goal.are_words_more-requires
are_words_more-requires c =
    let s = c.args in
    let r = good-range s.card.now.parts (records s.card.now.root) s.card.now.waiting (sym c.is_bad.ensures ∙ c.if-is_bad.false) in
    (r.tree.height.0, (r.tree.height.1, r.tree.slots.1))
