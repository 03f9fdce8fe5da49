-- A record cleared in words, and what a removal tells of the way: whether it was there, and how long the way is.
-- Assumes nothing.
use Prim.Native.Nat.{ℕ, zero, suc, ◌+◌, ◌*◌, ◌/◌, ◌≤◌, ◌<◌}
use mathlib.Core.Bool.{Bool, true, false}
use mathlib.Core.List.{List, [], ◌∷◌, Memᴰ, append-nil}
use mathlib.Core.Logic.{inl, inr}
use mathlib.Core.Path.{◌≡◌, sym, ap, ◌∙◌}
use mathlib.Mathlib.Data.Bool.Basic.{dichotomy}
use native.Mathlib.Nat.{zero-add}
use native.Mathlib.Omega.{arith}
use lib.ListN.{length, get_or, set, drop, length-set, drop_of_length-le}
use lib.Seq.{drop-set-lt, set_out}
use borrow.Author.Tests.{lt-ltb, le-ltb, ltb-true}
use Rattle.std.specs.Prelude.{Option, Some, None}
use Rattle.record.specs.declared.Record.{Record}
use Rattle.record.specs.Standing.{dummy}
use Rattle.record.specs.Words.{records, written}
use Rattle.record.proofs.WordsLaws.{records-count, records-written}
use Rattle.way.specs.Evict.{seek, placed}
use Rattle.way.proofs.EvictLaws.{placed-is, placed_out}
use Rattle.gather.specs.Laid.{laid_over}
use Rattle.clearing.specs.Removal.{found, removed, Cleared}
use Rattle.gather.proofs.LaidLaws.{laid-all, laid-records}

-- words behind a record are as they were
drop-written : (ws : List ℕ) (p n : ℕ) (r : Record) → 4 * p + 4 ≤ n → drop n (written ws p r) ≡ drop n ws
drop-written ws p n r h =
    let a = 4 * p in
    drop-set-lt n _ (suc (suc (suc a))) _ (omega arith)
    ∙ drop-set-lt n _ (suc (suc a)) _ (omega arith)
    ∙ drop-set-lt n _ (suc a) _ (omega arith)
    ∙ drop-set-lt n ws a _ (omega arith)

-- a record written is a record set, and all records laid again
written_all : (ws : List ℕ) (p : ℕ) (r : Record) → p < length ws / 4 → written ws p r ≡ laid_over ws 0 (set (records ws) p r)
unfolding laid_over
written_all ws p r h =
    let n = records-count ws in
    let e = rw (records-written ws p r (omega arith)) at (laid-all (written ws p r)) in
    sym e ∙ rw (length-set, drop-written ws p (4 * (0 + length (records ws))) r (omega arith))

-- the search has ended: the record found is cleared, or nothing
module _ (f : Record → Bool) (ws : List ℕ) where
  abbrev place : Option ℕ
  place = placed (length (records ws)) (seek f (length (records ws)) (records ws))

  pub clear-found : (i : ℕ) → Some i ≡ place → Cleared f ws (written ws i dummy) true
  unfolding found removed
  clear-found i p =
      let n = records-count ws in
      let (s, l) = placed-is _ _ i p in
      record {
        answered = rw s (sym (lt-ltb i _ l));
        words = rw s (written_all ws i dummy (omega arith));
      }

  pub clear_none : None ≡ place → Cleared f ws ws false
  unfolding found removed
  clear_none p =
      let out = placed_out _ _ p in
      record {
        answered = sym (le-ltb _ _ out);
        words = rw (set_out (records ws) _ dummy out, laid-all);
      }

-- ---- for crates above: a scratch cleared
module _ (f : Record → Bool) (before after : List ℕ) (answer : Bool) (c : Cleared f before after answer) where
  removed-room : 4 * (0 + length (removed f (records before))) ≤ length before
  unfolding removed
  removed-room = rw length-set (omega (arith, records-count before))

  pub cleared-records : records after ≡ removed f (records before)
  unfolding removed
  cleared-records =
      let none = drop_of_length-le (records before) {i = length (records before)} (omega arith) in
      ap records c.words ∙ laid-records before 0 _ removed-room ∙ rw (length-set, zero-add, none, append-nil)

pub removed-length : (f : Record → Bool) (w : List Record) → length (removed f w) ≡ length w
unfolding removed
removed-length f w = length-set w _ dummy

-- ---- one that passes is found, and what is found passes
module _ (f : Record → Bool) where
  seek-below : {x : Record} {w : List Record} → Memᴰ x w → f x ≡ true → seek f (length w) w < length w
  unfolding seek
  seek-below (Memᴰ.head e) t = rw (rw e at t) (omega arith)
  seek-below (Memᴰ.tail {x = y} m) t = elim (dichotomy (f y)) [
    | inl n ↦ let l = seek-below m t in rw n (omega arith)
    | inr h ↦ rw h (omega arith)
  ]

  pub member-found : {x : Record} {w : List Record} → Memᴰ x w → f x ≡ true → found f w ≡ true
  unfolding found
  member-found m t = lt-ltb _ _ (seek-below m t)

  seek-passes : (n : ℕ) (w : List Record) (d : Record) → n ≤ length w → seek f n w < n → f (get_or w (seek f n w) d) ≡ true
  unfolding seek
  seek-passes zero w d h l = absurd (omega arith)
  seek-passes (suc n) [] d h l = absurd (omega arith)
  seek-passes (suc n) (x ∷ xs) d h l = elim (dichotomy (f x)) [
    | inl e ↦ let k = rw e at l in rw e (seek-passes n xs d (omega arith) (omega arith))
    | inr t ↦ rw t t
  ]

  pub found-passes : (w : List Record) (d : Record) → found f w ≡ true → f (get_or w (seek f (length w) w) d) ≡ true
  unfolding found
  found-passes w d h = seek-passes (length w) w d (omega arith) (ltb-true _ _ h)
