-- A request in words: six of them, of an allowed kind, and read back. Assumes nothing.
use Prim.Native.Nat.{ℕ}
use mathlib.Core.Bool.{false}
use mathlib.Core.List.{List, [], ◌∷◌, ◌++◌}
use mathlib.Core.Path.{◌≡◌, refl}
use lib.Dec.{ltb}
use lib.ListN.{length, get_or}
use Rattle.std.specs.Prelude.{Option, None, Some}
use Rattle.request.specs.declared.Request.{Request}
use Rattle.request.specs.declared.Request.TheVariants.{Insert, Extract, Delete}
use Rattle.kinds.specs.Kinds.{request_words}

pub request-words : (w : Option Request)
    → get_or (request_words w) 0 0 ∷ get_or (request_words w) 1 0 ∷ get_or (request_words w) 2 0 ∷ get_or (request_words w) 3 0
    ∷ get_or (request_words w) 4 0 ∷ get_or (request_words w) 5 0 ∷ []
    ≡ request_words w
unfolding request_words
request-words None = refl
request-words (Some (Insert key value label first second)) = refl
request-words (Some Extract) = refl
request-words (Some (Delete label stamp)) = refl

pub request-length : (w : Option Request) → length (request_words w) ≡ 6
unfolding request_words
request-length None = refl
request-length (Some (Insert key value label first second)) = refl
request-length (Some Extract) = refl
request-length (Some (Delete label stamp)) = refl

-- the kind is one of the four
pub even-request : (w : Option Request) (rest : List ℕ) → ltb 3 (get_or (request_words w ++ rest) 0 0) ≡ false
unfolding request_words
even-request None rest = refl
even-request (Some (Insert key value label first second)) rest = refl
even-request (Some Extract) rest = refl
even-request (Some (Delete label stamp)) rest = refl
