-- P1 to P12: document 01, "Marked P1 to P9 in line order", in bytes. Assumes nothing.
use Rattle.std.specs.Prelude.{ℕ, List, [], ◌∷◌}
use Rattle.record.specs.declared.Leaf.{Leaf}
use Rattle.record.specs.Standing.{dummy_key}
use Rattle.request.specs.declared.Request.TheVariants.{Insert, Extract}
use Rattle.paper.specs.Run.{Row, none, slots_of_bucket, slots_of_both, asks_for}

abbrev pub leaf : ℕ → Leaf
leaf n = record { 0 = n }

-- P1; P12: "with h = 2, `insert` with leaves 1 and 2 lists 2, 5, 3, 6 whole and 4, 7 for least records"
-- size 2 1 1 16 | 0
abbrev pub row1 : Row
row1 = record {
  line = 115 ∷ 105 ∷ 122 ∷ 101 ∷ 32 ∷ 50 ∷ 32 ∷ 49 ∷ 32 ∷ 49 ∷ 32 ∷ 49 ∷ 54 ∷ [];
  prints = 48 ∷ 10 ∷ [];
  look = asks_for (Insert 7 70 (leaf 0) (leaf 1) (leaf 2));
  shows = 4 ∷ 2 ∷ 2 ∷ 5 ∷ 3 ∷ 6 ∷ 4 ∷ 7 ∷ [];
}

-- P2; P10: "after line 2 the record stands in bucket 2"
-- insert 7 70 0 1 2 | 0 0 0 72
abbrev pub row2 : Row
row2 = record {
  line = 105 ∷ 110 ∷ 115 ∷ 101 ∷ 114 ∷ 116 ∷ 32 ∷ 55 ∷ 32 ∷ 55 ∷ 48 ∷ 32 ∷ 48 ∷ 32 ∷ 49 ∷ 32 ∷ 50 ∷ [];
  prints = 48 ∷ 32 ∷ 48 ∷ 32 ∷ 48 ∷ 32 ∷ 55 ∷ 50 ∷ 10 ∷ [];
  look = slots_of_bucket 2;
  shows = 7 ∷ 70 ∷ 0 ∷ 0 ∷ [];
}

-- P3
-- insert 5 50 0 1 2 | 0 0 1 72
abbrev pub row3 : Row
row3 = record {
  line = 105 ∷ 110 ∷ 115 ∷ 101 ∷ 114 ∷ 116 ∷ 32 ∷ 53 ∷ 32 ∷ 53 ∷ 48 ∷ 32 ∷ 48 ∷ 32 ∷ 49 ∷ 32 ∷ 50 ∷ [];
  prints = 48 ∷ 32 ∷ 48 ∷ 32 ∷ 49 ∷ 32 ∷ 55 ∷ 50 ∷ 10 ∷ [];
  look = none;
  shows = [];
}

-- P4
-- insert 6 60 3 1 2 | 10
abbrev pub row4 : Row
row4 = record {
  line = 105 ∷ 110 ∷ 115 ∷ 101 ∷ 114 ∷ 116 ∷ 32 ∷ 54 ∷ 32 ∷ 54 ∷ 48 ∷ 32 ∷ 51 ∷ 32 ∷ 49 ∷ 32 ∷ 50 ∷ [];
  prints = 49 ∷ 48 ∷ 10 ∷ [];
  look = none;
  shows = [];
}

-- P5; P11: "the `extract` of line 6 lists 2, 4 whole and 3, 5 for least records"
-- min | 0 5 50 0 1 0
abbrev pub row5 : Row
row5 = record {
  line = 109 ∷ 105 ∷ 110 ∷ [];
  prints = 48 ∷ 32 ∷ 53 ∷ 32 ∷ 53 ∷ 48 ∷ 32 ∷ 48 ∷ 32 ∷ 49 ∷ 32 ∷ 48 ∷ 10 ∷ [];
  look = asks_for Extract;
  shows = 2 ∷ 2 ∷ 2 ∷ 4 ∷ 3 ∷ 5 ∷ [];
}

-- P6; P11: "and moves key 7 to bucket 4": bucket 2, where it stood, holds the dummy
-- extract | 0 5 50 0 1 40
abbrev pub row6 : Row
row6 = record {
  line = 101 ∷ 120 ∷ 116 ∷ 114 ∷ 97 ∷ 99 ∷ 116 ∷ [];
  prints = 48 ∷ 32 ∷ 53 ∷ 32 ∷ 53 ∷ 48 ∷ 32 ∷ 48 ∷ 32 ∷ 49 ∷ 32 ∷ 52 ∷ 48 ∷ 10 ∷ [];
  look = slots_of_both 2 4;
  shows = dummy_key ∷ 0 ∷ 0 ∷ 0 ∷ 7 ∷ 70 ∷ 0 ∷ 0 ∷ [];
}

-- P7
-- delete 0 0 | 0 1 40
abbrev pub row7 : Row
row7 = record {
  line = 100 ∷ 101 ∷ 108 ∷ 101 ∷ 116 ∷ 101 ∷ 32 ∷ 48 ∷ 32 ∷ 48 ∷ [];
  prints = 48 ∷ 32 ∷ 49 ∷ 32 ∷ 52 ∷ 48 ∷ 10 ∷ [];
  look = none;
  shows = [];
}

-- P8
-- delete 0 0 | 0 0 40
abbrev pub row8 : Row
row8 = record {
  line = 100 ∷ 101 ∷ 108 ∷ 101 ∷ 116 ∷ 101 ∷ 32 ∷ 48 ∷ 32 ∷ 48 ∷ [];
  prints = 48 ∷ 32 ∷ 48 ∷ 32 ∷ 52 ∷ 48 ∷ 10 ∷ [];
  look = none;
  shows = [];
}

-- P9
-- extract | 8
abbrev pub row9 : Row
row9 = record {
  line = 101 ∷ 120 ∷ 116 ∷ 114 ∷ 97 ∷ 99 ∷ 116 ∷ [];
  prints = 56 ∷ 10 ∷ [];
  look = none;
  shows = [];
}

abbrev pub table : List Row
table = row1 ∷ row2 ∷ row3 ∷ row4 ∷ row5 ∷ row6 ∷ row7 ∷ row8 ∷ row9 ∷ []
