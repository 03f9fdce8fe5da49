-- A card's parts, and the table of a request on a card. Assumes nothing.
use Rattle.std.specs.Prelude.{ℕ, List, Option}
use Rattle.record.specs.declared.Record.{Record}
use Rattle.path.specs.Sizes.{leaves_of}
use Rattle.refusal.specs.Refusal.{Refusal}
use Rattle.parts.specs.declared.Parts.{Parts}
use Rattle.request.specs.declared.Request.{Request}
use Rattle.request.specs.Tables.{request_rows, waiting_rows}
use Rattle.card.specs.declared.Card.{Card}

-- N of a card
abbrev pub leaves_in : Card → ℕ
leaves_in k = leaves_of k.sizes.h

-- all but the root and the waiting request; and a card of these
abbrev pub parts_of : Card → Parts
parts_of k = record { sizes = k.sizes; t = k.t; c = k.c; least = k.least }

abbrev pub card_of : Parts → List Record → Option Request → Card
card_of p root w = record { sizes = p.sizes; t = p.t; c = p.c; root = root; least = p.least; waiting = w }

-- the rows of a request, and of what waits, stand in request/specs/Tables.antt
abbrev pub request_table : Card → Request → List Refusal
request_table k r = request_rows (parts_of k) k.root r

abbrev pub waiting_table : Card → Option Request → List Refusal
waiting_table k w = waiting_rows (parts_of k) k.root w
