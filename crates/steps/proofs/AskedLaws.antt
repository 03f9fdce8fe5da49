-- A line that asks something of the card: `?` on a desk that has no size, else what the round or FindMin comes to. Assumes nothing.
use Prim.Native.Nat.{ℕ}
use mathlib.Core.List.{List, ◌++◌}
use mathlib.Core.Path.{◌≡◌, refl, sym, ap, ◌∙◌}
use lib.ListN.{length, take, drop}
use Rattle.std.specs.Prelude.{Some, None}
use Rattle.refusal.specs.Refusal.{first_given}
use Rattle.request.specs.declared.Request.{Request}
use Rattle.card.specs.declared.Card.{Card}
use Rattle.card.specs.declared.Done.{Done}
use Rattle.card.specs.Answers.{Answered}
use Rattle.card.specs.Calls.{min_table, found_min}
use Rattle.lines.specs.declared.Line.{Line}
use Rattle.lines.specs.declared.Line.TheVariants.{Unreadable, Min, Ask}
use Rattle.rounds.specs.Round.{Plays, round_done, round_tree}
use Rattle.rounds.proofs.RoundLaws.{comes-to}
use Rattle.steps.specs.declared.Turn.{Turn}
use Rattle.steps.specs.Step.{Desk, unread, tells, used_of, LineLeft, nothing, played, asked_for, min_of, step_of, Steps}

-- a step is known by what its line leaves
pub steps-as : (desk : Desk) (line : Line) (tree after : List ℕ) (turn : Turn) (l : LineLeft) → step_of desk line tree ≡ l → turn ≡ l.turn → after ≡ l.tree
    → Steps desk line tree after turn
steps-as desk line tree after turn l own t a =
    record { said = t ∙ sym (ap (λ (x : LineLeft). x.turn) own); lent = a ∙ sym (ap (λ (x : LineLeft). x.tree) own) }

-- a desk with no card, as the `else` of a `let` knows it
unsized : (desk : Desk) → ((k : Card) → desk ≡ Some k → ⊥) → desk ≡ None
unsized None n = refl
unsized (Some k) n = absurd (n k refl)

module _ (desk : Desk) (tree : List ℕ) where
  pub unread-line : (turn : Turn) → turn ≡ unread desk → Steps desk Unreadable tree tree turn
  unfolding step_of
  unread-line turn e = record { said = e; lent = refl }

  pub min-line : (turn : Turn) → turn ≡ min_of desk → Steps desk Min tree tree turn
  unfolding step_of
  min-line turn e = record { said = e; lent = refl }

  -- a line that asks for this request
  module _ (r : Request) where
    pub not-sized : (turn : Turn) → ((k : Card) → desk ≡ Some k → ⊥) → turn ≡ unread desk → Steps desk (Ask r) tree tree turn
    unfolding step_of asked_for
    not-sized turn h e = steps-as desk (Ask r) tree tree turn (nothing desk tree) (rw (unsized desk h)) e refl

    pub was-asked :
        (k : Card) (n : ℕ) (part after : List ℕ) (done : Done) (turn : Turn) → desk ≡ Some k
        → n ≡ used_of k.sizes.h k.sizes.z (length tree) → Plays k r (take n tree) part done
        → after ≡ part ++ drop n tree → turn ≡ tells done → Steps desk (Ask r) tree after turn
    unfolding step_of asked_for
    was-asked k n part after done turn h m p a e =
        let c = comes-to k r (take n tree) part done p in
        steps-as desk (Ask r) tree after turn (played k tree r) (rw h)
        (e ∙ ap tells (c.0 ∙ ap (λ (x : ℕ). round_done k r (take x tree)) m))
        (a ∙ ap (λ (x : List ℕ). x ++ drop n tree) c.1 ∙ ap (λ (x : ℕ). round_tree k r (take x tree) ++ drop x tree) m)

-- FindMin
module _ (desk : Desk) (turn : Turn) where
  pub min-unsized : ((k : Card) → desk ≡ Some k → ⊥) → turn ≡ unread desk → turn ≡ min_of desk
  unfolding min_of
  min-unsized h e = e ∙ rw (unsized desk h)

  pub min-sized : (k : Card) → desk ≡ Some k → (done : Done) → Answered k (first_given (min_table k)) (found_min k) done
      → turn ≡ tells done → turn ≡ min_of desk
  unfolding min_of
  min-sized k h done a e = rw h (e ∙ ap tells a.whole)
