-- Demand 3, proved: specs/Demand3.antt. Assumes nothing.
use Prim.Native.Nat.{ℕ, suc}
use mathlib.Core.Bool.{true}
use mathlib.Core.List.{List, [], ◌∷◌, map}
use mathlib.Core.Path.{◌≡◌, refl, sym, ◌∙◌}
use native.Mathlib.Omega.{arith}
use lib.ListN.{length, take}
use borrow.Author.Tests.{eq-eqb, ne_eqb}
use Rattle.path.specs.declared.sizes.Sizes.{Sizes}
use Rattle.path.specs.Sizes.{in_range}
use Rattle.request.specs.Tables.{waits}
use Rattle.demands.specs.Queue.{empty_queue}
use Rattle.world.specs.World.{World, fresh_world, insert, extract, delete, Call, begin, finish, withdraw, find_min, step}
use Rattle.demands.proofs.Demand2.{fresh_holds}
use Rattle.deals.specs.Trace.{Seen, number_given, trace, until_overflow}
use Rattle.deals.specs.Sequences.{kind_of, labelled, clean, Valid}
use Rattle.deals.specs.Dealing.{deal, dealt}
use Rattle.deals.specs.Demand3.{Demand3, Shows, NeverOverflows, SameTraces}
use Rattle.deals.proofs.RoundLaws.{Idle, passes-well}
use Rattle.deals.proofs.TwinLaws.{Twin, twin}
use Rattle.deals.proofs.ThereLaws.{length-given}
use Rattle.deals.proofs.DealLaws.{deal-is, deal-once, deal-below}
use Rattle.deals.proofs.AgreeLaws.{Agree, over, overflows, goes_on, agree}

-- ---- what agrees has the same trace
agree-traces : {u v : World} {cs ds : List Call} → Agree u v cs ds
    → take (until_overflow v ds) (trace v ds) ≡ take (until_overflow v ds) (trace u cs)
unfolding trace until_overflow
agree-traces (over i) = refl
agree-traces {v = v} (overflows {d = d} e) = rw (eq-eqb (number_given (step v d)) 10 e)
agree-traces {v = v} (goes_on {d = d} same well rest) =
    let n = passes-well v d well in
    let later = agree-traces rest in
    rw (ne_eqb (number_given (step v d)) 10 (λ e. omega arith)) (λ i. same i ∷ later i)

-- and to the end, where none overflows
agree-ends : {u v : World} {cs ds : List Call} → Agree u v cs ds → until_overflow v ds ≡ length ds
    → (clean v ds ≡ true) × (trace v ds ≡ trace u cs)
unfolding trace until_overflow clean waits
agree-ends (over i) n = (rw i, refl)
agree-ends {v = v} (overflows {d = d} e) n = absurd (omega (arith, rw (eq-eqb (number_given (step v d)) 10 e) at n))
agree-ends {v = v} (goes_on {d = d} same well rest) n =
    let m = passes-well v d well in
    let more = rw (ne_eqb (number_given (step v d)) 10 (λ e. omega arith)) at n in
    let (c, later) = agree-ends rest (omega arith) in
    (rw (well, c), λ i. same i ∷ later i)

-- ---- two sequences on fresh worlds
module _ (s : Sizes) (ok : in_range s ≡ true) where
  fresh-idle : Idle s (fresh_world s) empty_queue
  fresh-idle = fresh_holds s ok

  module _ (cs ds : List Call) (clear : clean (fresh_world s) cs ≡ true) (kinds : map kind_of ds ≡ map kind_of cs) (valid : Valid s empty_queue ds) where
    side_by_side : Twin s (fresh_world s) empty_queue empty_queue cs ds
    side_by_side = twin s valid cs (fresh_world s) empty_queue kinds fresh-idle clear

    agrees : Agree (fresh_world s) (fresh_world s) cs (dealt cs ds)
    agrees =
        agree s (deal cs ds) (deal-below side_by_side) side_by_side (fresh_world s)
        (record {
          second = fresh-idle;
          same_taken = refl;
          same-many = refl;
          bare = tt;
          leave = deal-is side_by_side;
        })

pub demand3 : Demand3
demand3 s first second t =
    record {
      once = deal-once (side_by_side s t.sizes first second t.clear t.kinds t.valid);
      same = agree-traces (agrees s t.sizes first second t.clear t.kinds t.valid);
    }

-- ---- the same traces
kinds-given : (f : ℕ → ℕ) (t : ℕ) (cs : List Call) → map kind_of (labelled f t cs) ≡ map kind_of cs
unfolding labelled
kinds-given f t [] = refl
kinds-given f t (begin (insert {first = first} {second = second} word) places ∷ cs) = rw (kinds-given f (suc t) cs)
kinds-given f t (begin extract places ∷ cs) = rw (kinds-given f (suc t) cs)
kinds-given f t (begin delete places ∷ cs) = rw (kinds-given f (suc t) cs)
kinds-given f t (finish words ∷ cs) = rw (kinds-given f t cs)
kinds-given f t (withdraw ∷ cs) = rw (kinds-given f t cs)
kinds-given f t (find_min ∷ cs) = rw (kinds-given f t cs)

module _ (s : Sizes) (ok : in_range s ≡ true) where
  shows-too : (cs ds : List Call) → map kind_of ds ≡ map kind_of cs → Valid s empty_queue ds → NeverOverflows s ds → (seen : List Seen)
      → Shows s cs seen → Shows s ds seen
  shows-too cs ds kinds valid never seen x =
      let given = labelled x.label 0 cs in
      let same : map kind_of ds ≡ map kind_of given = kinds ∙ sym (kinds-given x.label 0 cs) in
      let f = deal given ds in
      let n = never f (deal-below (side_by_side s ok given ds x.clear same valid)) in
      let (c, e) = agree-ends (agrees s ok given ds x.clear same valid) (n ∙ sym (length-given f 0 ds)) in
      record { label = f; clear = c; shown = e ∙ x.shown }

pub same-traces : SameTraces
same-traces s cs ds ok kinds valid valid' never never' seen =
    (shows-too s ok cs ds kinds valid' never' seen, shows-too s ok ds cs (sym kinds) valid never seen)
