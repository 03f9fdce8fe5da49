-- The card as words: what document 01 says a card holds, in the order in which a driver keeps it. Assumes nothing.
use Rattle.std.specs.Prelude.{ℕ, List, ◌∷◌, ◌++◌, Option}
use Rattle.record.specs.Words.{words_of}
use Rattle.path.specs.declared.sizes.Sizes.{Sizes}
use Rattle.card.specs.declared.Card.{Card}
use Rattle.kinds.specs.Kinds.{request_words}
use Rattle.request.specs.declared.Request.{Request}

-- how many words a card is
abbrev pub card_words : ℕ
card_words = 272

-- "sizes, the count t of finished requests, the count c of live events", and the waiting request: 12 words
abbrev pub head_of : Sizes → ℕ → ℕ → Option Request → List ℕ
head_of s t c w = s.h ∷ s.z ∷ s.r ∷ s.t ∷ t ∷ c ∷ request_words w

-- and "the root's least record", then "the root's slots", all 64 places: 260 words
unfoldable pub image_of : Card → List ℕ
image_of k = head_of k.sizes k.t k.c k.waiting ++ words_of (k.least ∷ k.root)
