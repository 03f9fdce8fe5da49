-- A pass over slots that stand in words, place by place. Assumes nothing.
use Prim.Native.Nat.{ℕ, zero, suc, ◌+◌, ◌/◌, ◌≤◌, ◌<◌}
use mathlib.Core.Bool.{Bool, true, false, not, ◌||◌, and-false, not-not}
use mathlib.Core.List.{List, [], ◌∷◌}
use mathlib.Core.Logic.{inl, inr}
use mathlib.Core.Path.{◌≡◌, refl, sym, ap, ◌∙◌}
use mathlib.Mathlib.Data.Bool.Basic.{dichotomy}
use native.Mathlib.Omega.{arith}
use lib.Dec.{leb, ltb, leb-suc-suc}
use lib.ListN.{length, take, drop}
use lib.Seq.{take_all}
use borrow.Author.Tests.{lt-ltb, le-ltb}
use Rattle.std.specs.Prelude.{Option}
use Rattle.std.specs.List.{list_all, range_with_len}
use Rattle.std.specs.Option.{is_some}
use Rattle.record.specs.declared.Rule.{Rule}
use Rattle.record.specs.declared.Record.{Record}
use Rattle.record.specs.Standing.{dummy, is_dummy, is_proper, may_stand}
use Rattle.record.specs.Order.{before}
use Rattle.record.specs.Many.{every, reals}
use Rattle.record.specs.Words.{record_at, records}
use Rattle.record.proofs.PlacesLaws.{pass-starts, pass-turns, pass-fails, pass-ends, reals-dummy, reals-next}
use Rattle.record.proofs.WordsLaws.{records-at, records-count, records-next, records-end}
use Rattle.way.specs.Evict.{seek, placed}
use Rattle.way.proofs.EvictLaws.{placed-some}
use Rattle.root.specs.Root.{slots_fine, root_full}

-- a record that is the dummy, or no earlier than `least`
unfoldable pub no_earlier : Rule → Record → Record → Bool
no_earlier rule least x = is_dummy x || before rule least x

-- what the pass of `slots_fine` over the places of some words knows at place i
pub record Fine (ws : List ℕ) (rule : Rule) (least : Record) (i count : ℕ) : Type 0 where
  pub place : i ≤ length ws / 4
  pub few : count ≤ i
  pub stand : every (may_stand rule) (take i (records ws)) ≡ true
  pub after : every (no_earlier rule least) (take i (records ws)) ≡ true
  pub counted : count ≡ reals (take i (records ws))

module _ (ws : List ℕ) (rule : Rule) (least : Record) where
  pub fine-starts : Fine ws rule least 0 0
  unfolding reals
  fine-starts =
      record { place = omega arith; few = omega arith; stand = pass-starts _; after = pass-starts _; counted = refl }

  module _ (i count : ℕ) (h : i < length ws / 4) where
    pub fine-dummy : Fine ws rule least i count → is_dummy (record_at ws i) ≡ true → Fine ws rule least (i + 1) count
    unfolding may_stand no_earlier
    fine-dummy p e =
        record {
          place = omega arith;
          few = omega (arith, p.few);
          stand = pass-turns _ ws i h p.stand (rw e);
          after = pass-turns _ ws i h p.after (rw e);
          counted =
              p.counted
              ∙ sym (reals-dummy (records ws) i dummy (omega (arith, records-count ws)) (rw (records-at ws i dummy (omega arith)) e));
        }

    pub fine-record :
        Fine ws rule least i count → is_dummy (record_at ws i) ≡ false → is_proper rule (record_at ws i) ≡ true
        → before rule least (record_at ws i) ≡ true → Fine ws rule least (i + 1) (count + 1)
    unfolding may_stand no_earlier
    fine-record p e f g =
        record {
          place = omega arith;
          few = omega (arith, p.few);
          stand = pass-turns _ ws i h p.stand (rw (e, f));
          after = pass-turns _ ws i h p.after (rw (e, g));
          counted =
              ap (λ m. m + 1) p.counted
              ∙ sym (reals-next (records ws) i dummy (omega (arith, records-count ws)) (rw (records-at ws i dummy (omega arith)) e));
        }

    -- a place that is not fine, and so the slots are not
    pub strange-place :
        (live : ℕ) → is_dummy (record_at ws i) ≡ false → is_proper rule (record_at ws i) ≡ false
        → slots_fine rule least live (records ws) ≡ false
    unfolding slots_fine may_stand
    strange-place live e f = rw (pass-fails (may_stand rule) ws i h (rw (e, f)))

    pub earlier-place :
        (live : ℕ) → is_dummy (record_at ws i) ≡ false → before rule least (record_at ws i) ≡ false
        → slots_fine rule least live (records ws) ≡ false
    unfolding slots_fine no_earlier
    earlier-place live e f = rw (pass-fails (no_earlier rule least) ws i h (rw (e, f)), and-false (every (may_stand rule) (records ws)))

  pub fine-ends :
      (i count live : ℕ) → Fine ws rule least i count → length ws / 4 ≤ i → slots_fine rule least live (records ws) ≡ leb count live
  unfolding slots_fine no_earlier
  fine-ends i count live p h =
      let whole = take_all i (records ws) (omega (arith, records-count ws)) in
      rw (pass-ends (may_stand rule) ws i h p.stand, pass-ends (no_earlier rule least) ws i h p.after, p.counted, whole)

-- a test of all places from i on, n in number, is one of the records there
pub places-all : (f : Record → Bool) (ws : List ℕ) (i n : ℕ) → i + n ≡ length ws / 4
    → list_all (λ k. f (record_at ws k)) (range_with_len i n) ≡ every f (drop i (records ws))
unfolding every
places-all f ws i zero e = rw (records-end ws i (omega arith))
places-all f ws i (suc n) e = rw (records-next ws i (omega arith), ← places-all f ws (i + 1) n (omega arith))

-- "every root slot real": the lowest dummy slot is none of them
full-seek : (n : ℕ) (xs : List Record) → ltb (seek is_dummy n xs) n ≡ not (root_full n xs)
unfolding root_full seek every
full-seek zero xs = refl
full-seek (suc n) [] = le-ltb (suc n) (suc n) (omega arith)
full-seek (suc n) (x ∷ xs) = elim (dichotomy (is_dummy x)) [
  | inl f ↦ rw f (leb-suc-suc _ n ∙ full-seek n xs)
  | inr t ↦ rw t (lt-ltb 0 (suc n) (omega arith))
]

pub full-slots : (n : ℕ) (xs : List Record) (place : Option ℕ) (none : Bool) → place ≡ placed n (seek is_dummy n xs)
    → is_some place ≡ not none → none ≡ root_full n xs
full-slots n xs place none p e =
    sym (not-not none) ∙ ap not (sym e ∙ ap is_some p ∙ placed-some n _ ∙ full-seek n xs) ∙ not-not (root_full n xs)
