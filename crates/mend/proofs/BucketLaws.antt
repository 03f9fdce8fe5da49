-- A bucket's words: its least record is written first, its slots behind it. Assumes nothing.
use Prim.Native.Nat.{ℕ, ◌+◌, ◌-◌}
use mathlib.Core.List.{List, ◌++◌, append-nil}
use mathlib.Core.Path.{◌≡◌}
use native.Mathlib.Omega.{arith}
use lib.ListN.{length, drop, length-drop, drop_of_length-le}
use borrow.Rule.Slice.PartMut.{put_mid}
use Rattle.record.specs.declared.Record.{Record}
use Rattle.record.specs.Words.{words4, written}
use Rattle.record.proofs.WordsLaws.{take-written}

pub bucket-laid : (part now ys slots : List ℕ) (least : Record) → length part ≡ 4 + length slots
    → now ≡ written part 0 least → ys ≡ slots → put_mid 4 (length now - 4) now ys ≡ words4 least ++ slots
bucket-laid part now ys slots least size e q =
    let front = take-written part 0 least (omega arith) in
    let none = drop_of_length-le (drop 4 now) {i = length now - 4} (omega (arith, length-drop 4 now)) in
    rw (none, append-nil, q, e, front)
