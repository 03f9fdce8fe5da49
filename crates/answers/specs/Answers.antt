-- What an answer says: document 01, "Any refusal returns its number with every other field 0". Assumes nothing.
use Rattle.std.specs.Prelude.{ℕ, Bool, cond, List, [], ◌∷◌, replicate}
use Rattle.parts.specs.declared.Parts.{Parts}
use Rattle.parts.specs.Parts.{next_stamp}
use Rattle.request.specs.declared.Request.{Request}
use Rattle.request.specs.declared.Request.TheVariants.{Insert, Extract, Delete}
use Rattle.answers.specs.declared.Answer.{Answer}
use Rattle.answers.specs.declared.Answer.TheVariants.{Started, Listed, Least, Withdrawn, Inserted, Extracted, Deleted, Refused}

-- the paper's number of each case: 0, or the refusal's
abbrev pub number_of : Answer → ℕ
number_of Started = 0
number_of (Listed n) = 0
number_of (Least event words) = 0
number_of Withdrawn = 0
number_of (Inserted label stamp words) = 0
number_of (Extracted event words) = 0
number_of (Deleted found words) = 0
number_of (Refused number) = number

-- and its six values; one that does not apply is 0. A begin answers how many buckets are whole and how many least-record
-- only; FindMin and finish key, value, label, stamp, found and the words moved. Found is Delete's alone, 1 or 0.
abbrev pub no_values : List ℕ
no_values = replicate 6 0

abbrev pub values_of : Answer → List ℕ
values_of Started = no_values
values_of (Listed n) = n.whole ∷ n.least ∷ 0 ∷ 0 ∷ 0 ∷ 0 ∷ []
values_of (Least r words) = r.key ∷ r.value ∷ r.label.0 ∷ r.stamp.0 ∷ 0 ∷ words ∷ []
values_of Withdrawn = no_values
values_of (Inserted label stamp words) = 0 ∷ 0 ∷ label.0 ∷ stamp.0 ∷ 0 ∷ words ∷ []
values_of (Extracted r words) = r.key ∷ r.value ∷ r.label.0 ∷ r.stamp.0 ∷ 0 ∷ words ∷ []
values_of (Deleted found words) = 0 ∷ 0 ∷ 0 ∷ 0 ∷ cond found 1 0 ∷ words ∷ []
values_of (Refused number) = no_values

-- what a finish answers, with the words moved: "It answers label and stamp." of Insert; ExtractMin the record that was the
-- root's least; Delete whether it was there
abbrev pub answer_to : Parts → Request → Bool → ℕ → Answer
answer_to p (Insert key value label first second) found moved = Inserted label (next_stamp p) moved
answer_to p Extract found moved = Extracted p.least moved
answer_to p (Delete label stamp) found moved = Deleted found moved
