-- What begin answers decides whether there is anything to carry: a list, or its refusal. Assumes nothing.
use Prim.Native.Nat.{ℕ}
use mathlib.Core.List.{List}
use mathlib.Core.Path.{◌≡◌, sym, ap, subst, ◌∙◌}
use lib.ListN.{length}
use Rattle.lists.specs.declared.Listed.{Listed as Counts}
use Rattle.lists.specs.BucketList.{counts}
use Rattle.refusal.specs.Refusal.{first_given}
use Rattle.refusal.proofs.RefusalLaws.{or-first, left-before, left-done}
use Rattle.request.specs.declared.Request.{Request}
use Rattle.answers.specs.declared.Answer.{Answer}
use Rattle.answers.specs.declared.Answer.TheVariants.{Listed}
use Rattle.answers.specs.Answers.{number_of}
use Rattle.card.specs.declared.Card.{Card}
use Rattle.card.specs.declared.Done.{Done}
use Rattle.card.specs.Answers.{or_refused}
use Rattle.card.specs.Calls.{Begins, begin_table, list_of}
use Rattle.world.specs.World.{holding_list}
use Rattle.world.specs.Promised.{counts_in}
use Rattle.rounds.specs.Round.{list_places, Carries, Plays}
use Rattle.rounds.proofs.RoundLaws.{round-refused, plays}

module _ (k : Card) (r : Request) (tree list : List ℕ) (b : Done) (p : Begins k r list_places list b) where
  pub list-begun :
      (n : Counts) → b.answer ≡ Listed n → (after : List ℕ) (d : Done) → Carries k 0 (holding_list b.card tree list n) after d
      → Plays k r tree after d
  list-begun n e after d q =
      plays k r tree list b after d p
      (subst (λ (a : Answer). Carries k (number_of a) (holding_list b.card tree list (counts_in a)) after d) (sym e) q)

  pub nothing-begun : ((n : Counts) → b.answer ≡ Listed n → ⊥) → Plays k r tree tree (record { card = k; answer = b.answer })
  unfolding or_refused
  nothing-begun other =
      let n = first_given (begin_table k r (length list_places)) in
      let m = number_of b.answer in
      let some : n ≡ 0 → ⊥ = λ z. other (counts (list_of k r)) (ap (λ (x : Done). x.answer) (p.call.whole ∙ left-done n _ _ z)) in
      let is = p.call.whole ∙ left-before n _ _ some in
      let d : Done = record { card = k; answer = b.answer } in
      plays k r tree list b tree d p
      (round-refused k m _ n d (or-first m _ (λ z. some (sym p.call.numbered ∙ z)) ∙ p.call.numbered) some
      (ap (λ (x : Done). record { card = k; answer = x.answer }) is))
