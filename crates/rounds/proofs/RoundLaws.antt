-- A round is refused with the first refusal of its steps, or done. Assumes nothing.
use Prim.Native.Nat.{ℕ, zero, suc}
use mathlib.Core.List.{List}
use mathlib.Core.Path.{◌≡◌, sym, ap, subst, ◌∙◌}
use Rattle.lists.specs.declared.Listed.{Listed as Counts}
use Rattle.refusal.specs.Refusal.{afterwards}
use Rattle.refusal.proofs.RefusalLaws.{left-before, left-done}
use Rattle.request.specs.declared.Request.{Request}
use Rattle.card.specs.declared.Card.{Card}
use Rattle.card.specs.declared.Done.{Done}
use Rattle.answers.specs.Answers.{number_of}
use Rattle.card.specs.Answers.{refused, or_refused, Answered}
use Rattle.card.specs.Calls.{Begins}
use Rattle.card.proofs.AnswerLaws.{is-refused, is-done}
use Rattle.world.specs.World.{World, Outcome, holding_list, unlisted, after_begin}
use Rattle.world.specs.Promised.{counts_in}
use Rattle.world.proofs.PromisedLaws.{begin-told}
use Rattle.rounds.specs.Round.{list_places, done_in, ending, first_refusal, Carries, Plays, round_refusal, round_done, round_tree}

module _ (k : Card) (before : ℕ) (v : World) where
  pub round-refused : (number : ℕ) (d : Done) → first_refusal before v ≡ number → (number ≡ 0 → ⊥) → d ≡ refused k number → Carries k before v v.tree d
  round-refused number d e h r =
      let n = first_refusal before v in
      let some : n ≡ 0 → ⊥ = λ z. h (sym e ∙ z) in
      record {
        call = subst (λ (x : Done). Answered k n (done_in (ending v)) x) (sym (r ∙ ap (refused k) (sym e))) (is-refused k n _ some);
        lent = sym (left-before n (ending v).world.tree v.tree some);
      }

  -- done, with the outcome `o`
  pub round-done : (o : Outcome) → o ≡ ending v → first_refusal before v ≡ 0 → number_of o.answer ≡ 0 → Carries k before v o.world.tree (done_in o)
  round-done o is e z =
      let n = first_refusal before v in
      record {
        call = subst (λ (x : Outcome). Answered k n (done_in x) (done_in o)) is (is-done k n (done_in o) e z);
        lent = ap (λ (x : Outcome). x.world.tree) is ∙ sym (left-done n (ending v).world.tree v.tree e);
      }

-- where begin refuses, the list does not matter
begun-held : (k c : Card) (tree list list' : List ℕ) (many many' : Counts) (m : ℕ) (after : List ℕ) (d : Done)
    → Carries k m (holding_list c tree list many) after d
    → Carries k m (holding_list c tree (afterwards m list list') (afterwards m many many')) after d
unfolding or_refused
begun-held k c tree list list' many many' zero after d p = p
begun-held k c tree list list' many many' (suc m) after d p =
    record { call = record { whole = p.call.whole; numbered = p.call.numbered; valued = p.call.valued }; lent = p.lent }

-- ---- a round of a request that begin was given
module _ (k : Card) (r : Request) (tree : List ℕ) where
  pub plays : (list : List ℕ) (b : Done) (after : List ℕ) (d : Done) → Begins k r list_places list b
      → Carries k (number_of b.answer) (holding_list b.card tree list (counts_in b.answer)) after d → Plays k r tree after d
  plays list b after d p q =
      subst (λ (o : Outcome). Carries k (number_of o.answer) o.world after d) (begin-told (unlisted k tree) r list_places list b p)
      (begun-held k b.card tree list _ (counts_in b.answer) _ (number_of b.answer) after d q)

  -- a round comes to what its equations say
  pub comes-to : (after : List ℕ) (d : Done) → Plays k r tree after d → (d ≡ round_done k r tree) × (after ≡ round_tree k r tree)
  unfolding round_refusal round_done round_tree after_begin
  comes-to after d p = (p.call.whole, p.lent)

  -- a round that is refused leaves card and tree as they were
  pub refused-round : (round_refusal k r tree ≡ 0 → ⊥) → (round_done k r tree ≡ refused k (round_refusal k r tree)) × (round_tree k r tree ≡ tree)
  unfolding round_refusal round_done round_tree after_begin or_refused
  refused-round h = (left-before (round_refusal k r tree) _ _ h, left-before (round_refusal k r tree) _ tree h)
