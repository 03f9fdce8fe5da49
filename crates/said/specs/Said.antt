-- The numbers that are printed for an answer of the card: document 01, "Otherwise: 0 for size; 0, label, stamp, words for insert; 0, key,
-- value, label, stamp, words for min and extract; 0, found (1 or 0), words for delete". Assumes nothing.
use Rattle.std.specs.Prelude.{ℕ, cond, List, [], ◌∷◌}
use Rattle.record.specs.declared.Record.{Record}
use Rattle.answers.specs.declared.Answer.{Answer}
use Rattle.answers.specs.declared.Answer.TheVariants.{Started, Listed, Least, Withdrawn, Inserted, Extracted, Deleted, Refused}

-- "0, key, value, label, stamp, words"
abbrev pub event_numbers : Record → ℕ → List ℕ
event_numbers r words = 0 ∷ r.key ∷ r.value ∷ r.label.0 ∷ r.stamp.0 ∷ words ∷ []

-- the numbers of an answer; FindMin moves no words. No line of the desk is answered by Listed or Withdrawn.
abbrev pub numbers_of : Answer → List ℕ
numbers_of Started = 0 ∷ []
numbers_of (Listed n) = 0 ∷ []
numbers_of (Least r words) = event_numbers r words
numbers_of Withdrawn = 0 ∷ []
numbers_of (Inserted label stamp words) = 0 ∷ label.0 ∷ stamp.0 ∷ words ∷ []
numbers_of (Extracted r words) = event_numbers r words
numbers_of (Deleted found words) = 0 ∷ cond found 1 0 ∷ words ∷ []
numbers_of (Refused number) = number ∷ []
