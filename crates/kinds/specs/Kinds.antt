-- A waiting request as its kind and five fields. Assumes nothing.
use Rattle.std.specs.Prelude.{ℕ, cond, List, [], ◌∷◌, eqb, Option, None, Some}
use Rattle.request.specs.declared.Request.{Request}
use Rattle.request.specs.declared.Request.TheVariants.{Insert, Extract, Delete}

-- "the waiting request, if any": its kind and five fields; a field that the kind has not got is 0
unfoldable pub request_words : Option Request → List ℕ
request_words None = 0 ∷ 0 ∷ 0 ∷ 0 ∷ 0 ∷ 0 ∷ []
request_words (Some (Insert key value label first second)) = 1 ∷ key ∷ value ∷ label.0 ∷ first.0 ∷ second.0 ∷ []
request_words (Some Extract) = 2 ∷ 0 ∷ 0 ∷ 0 ∷ 0 ∷ 0 ∷ []
request_words (Some (Delete label stamp)) = 3 ∷ label.0 ∷ stamp.0 ∷ 0 ∷ 0 ∷ 0 ∷ []

-- the request of a kind and five fields: 1 Insert, 2 ExtractMin, 3 Delete, else none
unfoldable pub waiting_of : ℕ → ℕ → ℕ → ℕ → ℕ → ℕ → Option Request
waiting_of kind a b c d e =
    cond (eqb kind 1) (Some (Insert a b (record { 0 = c }) (record { 0 = d }) (record { 0 = e })))
    (cond (eqb kind 2) (Some Extract)
    (cond (eqb kind 3) (Some (Delete (record { 0 = a }) (record { 0 = b }))) None))
