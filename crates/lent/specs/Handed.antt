-- What a call on a lent card comes to: document 01, "keeps the card where the driver lent it, and equals the first." Assumes nothing.
use Rattle.card.specs.declared.Card.{Card}
use Rattle.answers.specs.declared.Answer.{Answer}
use Rattle.card.specs.declared.Done.{Done}

-- the card that stands where it was lent when the call is over, and the answer: what the first entrance hands back
abbrev pub handed : Card → Answer → Done
handed k a = record { card = k; answer = a }
