-- A request that is begun, carried to its end: what fetch, finish and store promise, taken together. Assumes nothing.
use Prim.Native.Nat.{ℕ, zero, suc}
use mathlib.Core.List.{List}
use mathlib.Core.Path.{◌≡◌, refl, sym, ap, ◌∙◌}
use native.Mathlib.Omega.{arith}
use Rattle.std.specs.Prelude.{Bool, Option, None, Some, Result, Err, ⊤}
use Rattle.parts.specs.declared.Parts.{Parts}
use Rattle.request.specs.declared.Request.{Request}
use Rattle.request.specs.declared.Request.TheVariants.{Insert, Extract, Delete}
use Rattle.refusal.specs.declared.Reason.{Reason}
use Rattle.refusal.specs.Reason.{reason_number, refusal_in}
use Rattle.refusal.specs.Refusal.{or_else}
use Rattle.refusal.proofs.ReasonLaws.{some-number}
use Rattle.refusal.proofs.RefusalLaws.{or-first, or-second}
use Rattle.card.specs.declared.Card.{Card}
use Rattle.card.specs.declared.Done.{Done}
use Rattle.answers.specs.declared.Answer.{Answer}
use Rattle.answers.specs.declared.Answer.TheVariants.{Started, Listed, Least, Withdrawn, Inserted, Extracted, Deleted, Refused}
use Rattle.answers.specs.Answers.{number_of, answer_to}
use Rattle.card.specs.Answers.{refused, or_refused}
use Rattle.card.specs.Tables.{parts_of}
use Rattle.card.specs.Finish.{finished_for, finished_by, Finishes}
use Rattle.world.specs.World.{World, Outcome, after_finish}
use Rattle.world.specs.Promised.{FetchesHeld, StoresHeld, unstored, all_done}
use Rattle.world.proofs.PromisedLaws.{refused-told, done-told}
use Rattle.world.proofs.StoreLaws.{store-passes}
use Rattle.rounds.specs.Round.{word_places, ending, first_refusal, Carries}
use Rattle.rounds.proofs.RoundLaws.{round-refused, round-done}

or-none : (n : ℕ) → or_else n 0 ≡ n
or-none zero = refl
or-none (suc n) = refl

-- what is no refusal has the number 0
not-refused : (a : Answer) → ((number : ℕ) → a ≡ Refused number → ⊥) → number_of a ≡ 0
not-refused Started h = refl
not-refused (Listed n) h = refl
not-refused (Least event words) h = refl
not-refused Withdrawn h = refl
not-refused (Inserted label stamp words) h = refl
not-refused (Extracted event words) h = refl
not-refused (Deleted found words) h = refl
not-refused (Refused n) h = absurd (h n refl)

-- a request that is done is not refused
done-answers : (p : Parts) (r : Request) (found : Bool) (moved number : ℕ) → answer_to p r found moved ≡ Refused number → ⊥
done-answers p (Insert key value label first second) found moved number e =
    let no : ◌≡◌ {A = ℕ} 0 1 = cc in
    omega arith
done-answers p Extract found moved number e =
    let no : ◌≡◌ {A = ℕ} 0 1 = cc in
    omega arith
done-answers p (Delete label stamp) found moved number e =
    let no : ◌≡◌ {A = ℕ} 0 1 = cc in
    omega arith

-- a finish's refusal has a number
finish-some :
    (k : Card) (n : ℕ) (w : Option Request) (ws : List ℕ) (d : Done) → d ≡ or_refused k n (finished_for k w ws)
    → (number : ℕ) → d.answer ≡ Refused number → number ≡ 0 → ⊥
unfolding or_refused finished_by
finish-some k zero None ws d e number r z =
    let is : 3 ≡ number = sym (ap (λ (x : Done). number_of x.answer) e) ∙ ap number_of r in
    omega arith
finish-some k zero (Some w) ws d e number r z = done-answers (parts_of k) w _ _ number (sym (ap (λ (x : Done). x.answer) e) ∙ r)
finish-some k (suc n) w ws d e number r z =
    let is : suc n ≡ number = sym (ap (λ (x : Done). number_of x.answer) e) ∙ ap number_of r in
    omega arith

module _ (k : Card) (v : World) where
  module _ (a : Result ⊤ Reason) (words : List ℕ) (f : FetchesHeld v word_places a words) where
    pub fetch-refuses : (r : Reason) → a ≡ Err r → (d : Done) → d ≡ refused k (reason_number r) → Carries k 0 v v.tree d
    unfolding after_finish
    fetch-refuses r e d g =
        let says : (ending v).fetch ≡ reason_number r = sym f.number ∙ ap refusal_in e in
        round-refused k 0 v (reason_number r) d
        (or-first (ending v).fetch _ (λ z. some-number r (sym says ∙ z)) ∙ says) (some-number r) g

    module _ (u : refusal_in a ≡ 0) (later : List ℕ) (done : Done) (g : Finishes v.card words later done) where
      -- the outcome that fetch and finish leave gives the finish's number
      carry-number : (o : Outcome) → o ≡ ending v → o.fetch ≡ refusal_in a → o.answer ≡ done.answer → first_refusal 0 v ≡ number_of done.answer
      carry-number o is fetch answer =
          let none = sym (ap (λ (x : Outcome). x.fetch) is) ∙ fetch ∙ u in
          let given = sym (ap (λ (x : Outcome). number_of x.answer) is) ∙ ap number_of answer in
          or-second _ _ none ∙ ap (or_else (number_of (ending v).answer)) (store-passes v word_places none) ∙ or-none _ ∙ given

      pub finish-refuses : (number : ℕ) → done.answer ≡ Refused number → (d : Done) → d ≡ refused k number → Carries k 0 v v.tree d
      finish-refuses number e d r =
          let some = finish-some v.card _ v.card.waiting words done g.call.whole number e in
          let is = ap number_of e in
          let told = refused-told v word_places words later a done f g (λ z. some (sym is ∙ z)) in
          round-refused k 0 v number d (carry-number (unstored v done a) told refl refl ∙ is) some r

      pub all_done_lem : ((number : ℕ) → done.answer ≡ Refused number → ⊥) → (s : Result ⊤ Reason) (after : List ℕ) → StoresHeld v later s after → Carries k 0 v after done
      all_done_lem other s after h =
          let well = not-refused done.answer other in
          let told = done-told v word_places words later a done f g well after s h in
          round-done k 0 v (all_done done a s after) told (carry-number (all_done done a s after) told refl refl ∙ well) well
