-- BadCard: document 01, "Refusal numbers". A forged card may hold any 64-bit numbers. Assumes nothing.
use Rattle.std.specs.Prelude.{Bool}
use Rattle.checks.specs.Checks.{bad_with}
use Rattle.card.specs.declared.Card.{Card}
use Rattle.card.specs.Tables.{parts_of}

-- the clauses on the card's parts are those of judge/specs/BadParts.antt, and the waiting request's that of
-- checks/specs/Checks.antt
unfoldable pub bad_card : Card → Bool
bad_card k = bad_with (parts_of k) k.root k.waiting
