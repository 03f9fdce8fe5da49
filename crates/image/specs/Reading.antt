-- Which card some words stand for. Assumes nothing.
use Rattle.std.specs.Prelude.{ℕ, Bool, List, ltb, get_or, drop, Option}
use Rattle.record.specs.Words.{record_at, records}
use Rattle.path.specs.Sizes.{sizes_of}
use Rattle.card.specs.declared.Card.{Card}
use Rattle.kinds.specs.Kinds.{waiting_of}
use Rattle.request.specs.declared.Request.{Request}

-- a kind that no request has: such words stand for no card, and an entrance that is lent them gives 13
abbrev pub odd_kind : List ℕ → Bool
odd_kind ws = ltb 3 (get_or ws 6 0)

abbrev pub waiting_in : List ℕ → Option Request
waiting_in ws = waiting_of (get_or ws 6 0) (get_or ws 7 0) (get_or ws 8 0) (get_or ws 9 0) (get_or ws 10 0) (get_or ws 11 0)

unfoldable pub card_in : List ℕ → Card
card_in ws =
    record {
      sizes = sizes_of (get_or ws 0 0) (get_or ws 1 0) (get_or ws 2 0) (get_or ws 3 0);
      t = get_or ws 4 0;
      c = get_or ws 5 0;
      root = records (drop 16 ws);
      least = record_at ws 3;
      waiting = waiting_in ws;
    }
