-- Every call refuses the card that takes the place of one that there is not, with 13. Assumes nothing.
use Prim.Native.Nat.{ℕ}
use mathlib.Core.Bool.{Bool, true, false}
use mathlib.Core.List.{List, append-nil}
use mathlib.Core.Path.{◌≡◌, refl, sym, ◌∙◌}
use lib.ListN.{length}
use Rattle.path.specs.Sizes.{in_range, tree_in, between}
use Rattle.refusal.specs.Refusal.{first_given}
use Rattle.checks.specs.declared.Call.{Call}
use Rattle.checks.specs.declared.Call.TheVariants.{Min, Withdraw, Begin, Finish}
use Rattle.checks.specs.Checks.{call_rows}
use Rattle.card.specs.declared.Card.{Card}
use Rattle.card.specs.BadCard.{bad_card}
use Rattle.card.specs.Calls.{call_table}
use Rattle.card.specs.Finish.{finish_table}
use Rattle.card.proofs.GoodLaws.{good}
use Rattle.image.specs.Reading.{card_in, odd_kind}
use Rattle.held.specs.Held.{no_card, held_in}

bad-sizes : (k : Card) → in_range k.sizes ≡ false → (b : Bool) → bad_card k ≡ b → b ≡ true
bad-sizes k h true e = refl
bad-sizes k h false e = sym (sym (good k e).parts.sizes ∙ h)

none-bad : bad_card no_card ≡ true
unfolding in_range tree_in between
none-bad = bad-sizes no_card refl (bad_card no_card) refl

-- what the tables of the calls on a card say of it
pub none-called : (call : Call) → first_given (call_table no_card call) ≡ 13
unfolding call_table call_rows first_given
none-called Min = rw none-bad
none-called Withdraw = rw none-bad
none-called (Begin r room) = rw none-bad
none-called (Finish room) = rw none-bad

pub none-finishes : (fetched : List ℕ) → first_given (finish_table no_card fetched) ≡ 13
none-finishes fetched = rw append-nil (none-called (Finish (length fetched)))

pub held-odd : (ws : List ℕ) → odd_kind ws ≡ true → held_in ws ≡ no_card
unfolding held_in
held-odd ws h = rw h

pub held-even : (ws : List ℕ) → odd_kind ws ≡ false → held_in ws ≡ card_in ws
unfolding held_in
held-even ws h = rw h
