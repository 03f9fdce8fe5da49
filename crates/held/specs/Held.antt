-- The card that a call goes on with. Assumes nothing.
use Rattle.std.specs.Prelude.{ℕ, cond, List}
use Rattle.path.specs.Sizes.{sizes_of}
use Rattle.card.specs.declared.Card.{Card}
use Rattle.card.specs.Calls.{fresh_card}
use Rattle.image.specs.Reading.{card_in, odd_kind}

-- a card of height 0: sizes out of range, so that it is a BadCard
abbrev pub no_card : Card
no_card = fresh_card (sizes_of 0 0 0 0)

-- the card of the words; words with a kind that no request has stand for none, and are taken as a bad one
unfoldable pub held_in : List ℕ → Card
held_in ws = cond (odd_kind ws) no_card (card_in ws)
