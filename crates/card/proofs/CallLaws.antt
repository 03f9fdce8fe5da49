-- What the calls do to a good card, and what a bucket list depends on: for finish and for the demands. Assumes nothing.
use Prim.Native.Nat.{ℕ, zero, suc, ◌^◌}
use mathlib.Core.Bool.{Bool, true, false}
use mathlib.Core.List.{List, ◌∷◌}
use mathlib.Core.Path.{◌≡◌, refl, ap}
use native.Mathlib.Omega.{arith}
use lib.ListN.{take, drop, replicate}
use Rattle.std.specs.Prelude.{Option, None, Some}
use Rattle.record.specs.declared.Leaf.{Leaf}
use Rattle.record.specs.declared.Stamp.{Stamp}
use Rattle.record.specs.declared.Record.{Record}
use Rattle.record.specs.Standing.{dummy, is_dummy, rule_for, may_stand}
use Rattle.record.specs.Many.{every, reals, stamp_twice}
use Rattle.record.proofs.StandingLaws.{is-dummy, dummy-stands}
use Rattle.path.specs.declared.sizes.Sizes.{Sizes}
use Rattle.path.specs.Sizes.{in_range}
use Rattle.refusal.specs.Refusal.{first_given}
use Rattle.card.specs.declared.Card.{Card}
use Rattle.request.specs.declared.Request.{Request}
use Rattle.request.specs.declared.Request.TheVariants.{Insert, Extract, Delete}
use Rattle.judge.specs.BadParts.{odd_least}
use Rattle.card.specs.Tables.{waiting_table}
use Rattle.card.specs.Calls.{fresh_card, list_of, with_waiting}
use Rattle.card.proofs.GoodLaws.{Good}
use Rattle.card.proofs.BeginLaws.{Accepted}

-- ---- dummies only
take-dummies : (n m : ℕ) → (i : ℕ) × (take n (replicate m dummy) ≡ replicate i dummy)
take-dummies zero m = (0, refl)
take-dummies (suc n) zero = (0, refl)
take-dummies (suc n) (suc m) = let r = take-dummies n m in (suc r.0, ap (λ (l : List Record). dummy ∷ l) r.1)

drop-dummies : (n m : ℕ) → (i : ℕ) × (drop n (replicate m dummy) ≡ replicate i dummy)
drop-dummies zero m = (m, refl)
drop-dummies (suc n) zero = (0, refl)
drop-dummies (suc n) (suc m) = drop-dummies n m

every-dummies : (f : Record → Bool) → f dummy ≡ true → (n : ℕ) → every f (replicate n dummy) ≡ true
unfolding every
every-dummies f h zero = refl
every-dummies f h (suc n) = rw h (every-dummies f h n)

reals-dummies : (n : ℕ) → reals (replicate n dummy) ≡ 0
unfolding reals
reals-dummies zero = refl
reals-dummies (suc n) = rw is-dummy (reals-dummies n)

stamps-dummies : (n : ℕ) → stamp_twice (replicate n dummy) ≡ false
unfolding stamp_twice
stamps-dummies zero = refl
stamps-dummies (suc n) = rw is-dummy (stamps-dummies n)

-- ---- a started card is good
pub fresh-good : (s : Sizes) → in_range s ≡ true → Good (fresh_card s)
unfolding odd_least first_given
fresh-good s h =
    let slots = take-dummies s.r 64 in
    let past = drop-dummies s.r 64 in
    record {
      parts = record {
        sizes = h;
        spent = omega arith;
        live = (omega arith, omega arith);
        slots = rw slots.1 (every-dummies (may_stand (rule_for (2 ^ s.h) 0)) (dummy-stands (rule_for (2 ^ s.h) 0)) slots.0);
        past = rw past.1 (every-dummies is_dummy is-dummy past.0);
        stamps = rw slots.1 (stamps-dummies slots.0);
        few = rw (slots.1, reals-dummies) (omega arith);
        odd = rw (is-dummy, dummy-stands);
        first = rw slots.1 (every-dummies _ (rw is-dummy) slots.0);
      };
      waiting = refl;
    }

-- ---- a begin that is not refused, and a withdraw, leave a good card good
module _ (k : Card) (g : Good k) where
  pub waiting-good : (w : Option Request) → first_given (waiting_table k w) ≡ 0 → Good (with_waiting k w)
  waiting-good w e = record { parts = g.parts; waiting = e }

  pub withdrawn-good : Good (with_waiting k None)
  unfolding first_given
  withdrawn-good = waiting-good None refl

pub begun-good : (k : Card) (r : Request) (room : ℕ) → Accepted k r room → Good (with_waiting k (Some r))
begun-good k r room b = waiting-good k b.card (Some r) b.request

-- ---- the list depends on the request and the height, for ExtractMin on the root's least label, and on nothing else
pub same-list :
    (k k' : Card) (r : Request) → k.sizes.h ≡ k'.sizes.h → k.least.label ≡ k'.least.label → list_of k r ≡ list_of k' r
unfolding list_of
same-list k k' (Insert key value label first second) h l = rw h
same-list k k' Extract h l = rw (h, l)
same-list k k' (Delete label stamp) h l = rw h

pub insert-list :
    (k k' : Card) (key value key' value' : ℕ) (label label' first second : Leaf) → k.sizes.h ≡ k'.sizes.h
    → list_of k (Insert key value label first second) ≡ list_of k' (Insert key' value' label' first second)
unfolding list_of
insert-list k k' key value key' value' label label' first second h = rw h

pub delete-list :
    (k k' : Card) (label : Leaf) (stamp stamp' : Stamp) → k.sizes.h ≡ k'.sizes.h
    → list_of k (Delete label stamp) ≡ list_of k' (Delete label stamp')
unfolding list_of
delete-list k k' label stamp stamp' h = rw h
