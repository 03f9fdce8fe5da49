-- What follows from a card's parts. Assumes nothing.
use Rattle.std.specs.Prelude.{ℕ}
use Rattle.record.specs.declared.Stamp.{Stamp}
use Rattle.record.specs.declared.Record.{Record}
use Rattle.record.specs.declared.Rule.{Rule}
use Rattle.record.specs.Standing.{rule_for}
use Rattle.path.specs.declared.sizes.Sizes.{Sizes}
use Rattle.path.specs.Sizes.{leaves_of}
use Rattle.parts.specs.declared.Parts.{Parts}

abbrev pub parts_for : Sizes → ℕ → ℕ → Record → Parts
parts_for s t c least = record { sizes = s; t = t; c = c; least = least }

-- "Insert puts the record, with stamp t": the stamp of the next insertion
abbrev pub next_stamp : Parts → Stamp
next_stamp p = record { 0 = p.t }

-- "label below N, and stamp below the card's count of finished requests": what is proper on a card
abbrev pub rule_of : Parts → Rule
rule_of p = rule_for (leaves_of p.sizes.h) p.t
