-- What a call comes to where its refusal is known. Assumes nothing.
use Prim.Native.Nat.{ℕ, zero, suc}
use mathlib.Core.List.{List}
use mathlib.Core.Path.{◌≡◌, refl}
use lib.ListN.{length}
use Rattle.std.specs.Prelude.{Some}
use Rattle.lists.specs.declared.Listed.{Listed as Counts}
use Rattle.lists.specs.BucketList.{counts, laid}
use Rattle.refusal.specs.Refusal.{first_given}
use Rattle.request.specs.declared.Request.{Request}
use Rattle.answers.specs.declared.Answer.{Answer}
use Rattle.answers.specs.declared.Answer.TheVariants.{Refused}
use Rattle.card.specs.declared.Done.{Done}
use Rattle.card.specs.Answers.{or_refused}
use Rattle.card.specs.Calls.{with_waiting, list_of, begin_table, begun}
use Rattle.world.specs.World.{World, Outcome, alone, after_begin, rack_number, shown, finish_number, finishing, after_finish}

-- a call for which the rack is not asked
abbrev pub quiet : World → Answer → Outcome
quiet u a = record { world = u; answer = a; fetch = 0; store = 0 }

-- ---- a call of the card alone
module _ (u : World) (n : ℕ) (done : Done) (list : List ℕ) (many : Counts) where
  pub alone-done : n ≡ 0
      → quiet (record { card = done.card; tree = u.tree; list = list; counts = many }) done.answer ≡ alone u n done list many
  unfolding or_refused
  alone-done h = rw h

pub alone-refused : (u : World) (n : ℕ) (done : Done) (list : List ℕ) (many : Counts) → (n ≡ 0 → ⊥)
    → quiet u (Refused n) ≡ alone u n done list many
unfolding or_refused
alone-refused u zero done list many h = absurd (h refl)
alone-refused u (suc n) done list many h = refl

-- ---- begin
module _ (u : World) (r : Request) (places : List ℕ) where
  abbrev number : ℕ
  number = first_given (begin_table u.card r (length places))

  -- the world that begin leaves where it is not refused
  abbrev pub listing : World
  listing =
      record {
        card = with_waiting u.card (Some r);
        tree = u.tree;
        list = laid (list_of u.card r) places;
        counts = counts (list_of u.card r);
      }

  pub begin-done : number ≡ 0 → quiet listing (begun u.card r).answer ≡ after_begin u r places
  unfolding after_begin
  begin-done e = alone-done u number (begun u.card r) (laid (list_of u.card r) places) (counts (list_of u.card r)) e

  pub begin-refused : (number ≡ 0 → ⊥) → quiet u (Refused number) ≡ after_begin u r places
  unfolding after_begin
  begin-refused h = alone-refused u number (begun u.card r) (laid (list_of u.card r) places) (counts (list_of u.card r)) h

-- ---- a finish
finishing-refused : (u : World) (fetch : ℕ) (ws : List ℕ) (n : ℕ) → finish_number u ws ≡ n → (n ≡ 0 → ⊥)
    → record { world = u; answer = Refused n; fetch = fetch; store = 0 } ≡ finishing u fetch ws
unfolding or_refused
finishing-refused u fetch ws zero e h = absurd (h refl)
finishing-refused u fetch ws (suc n) e h = rw e

pub finish-refused : (u : World) (words : List ℕ) (n : ℕ) → finish_number u (shown u words) ≡ n → (n ≡ 0 → ⊥)
    → record { world = u; answer = Refused n; fetch = rack_number u words; store = 0 } ≡ after_finish u words
unfolding after_finish
finish-refused u words n e h = finishing-refused u (rack_number u words) (shown u words) n e h
