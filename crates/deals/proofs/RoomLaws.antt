-- With N slots in the root or more, no list of calls ever overflows, whatever the labels: the root then has more slots than there
-- are live events when an Insert is taken. So there are sizes for which the same traces follow. Assumes nothing.
use Prim.Native.Nat.{ℕ, suc, ◌≤◌}
use mathlib.Core.Bool.{true, false, not, true≢false}
use mathlib.Core.List.{List, [], ◌∷◌}
use mathlib.Core.Logic.{inl, inr, ⊎_elim}
use mathlib.Core.Path.{◌≡◌, refl, sym, ap, ◌∙◌, subst}
use mathlib.Mathlib.Data.Bool.Basic.{dichotomy}
use native.Mathlib.Omega.{arith}
use lib.ListN.{length, take, length-take}
use borrow.Author.Tests.{ne_eqb}
use Rattle.std.specs.Prelude.{Option, None}
use Rattle.record.specs.declared.Record.{Record}
use Rattle.record.specs.Standing.{is_dummy}
use Rattle.record.specs.Many.{every, reals}
use Rattle.path.specs.declared.sizes.Sizes.{Sizes}
use Rattle.path.specs.Sizes.{leaves_of, in_range}
use Rattle.path.proofs.SizesLaws.{in-range}
use Rattle.root.specs.Root.{root_full}
use Rattle.card.specs.declared.Card.{Card}
use Rattle.answers.specs.Answers.{number_of}
use Rattle.card.proofs.GoodLaws.{good}
use Rattle.served.proofs.CallLaws.{ready-card}
use Rattle.demands.specs.Queue.{Queue, empty_queue, next}
use Rattle.world.specs.World.{World, fresh_world, Call, step}
use Rattle.demands.specs.Says.{pending_after, operation_of}
use Rattle.demands.specs.Refusals.{refusal_of}
use Rattle.demands.specs.Demand2.{Refuses}
use Rattle.demands.proofs.RefusalsLaws.{refusal_is}
use Rattle.demands.proofs.StepLaws.{Holds, Goes}
use Rattle.demands.proofs.StandsLaws.{stands-plainly}
use Rattle.demands.proofs.Demand2.{plays, fresh_holds}
use Rattle.deals.specs.Trace.{number_given, until_overflow}
use Rattle.deals.specs.Sequences.{labelled}
use Rattle.deals.specs.Demand3.{NeverOverflows}
use Rattle.deals.proofs.ThereLaws.{length-given}
use Rattle.request.specs.declared.Request.{Request}

-- ---- the root of a card that holds
all-real : (xs : List Record) → every (λ x. not (is_dummy x)) xs ≡ true → reals xs ≡ length xs
unfolding every reals
all-real [] e = refl
all-real (x ∷ xs) e = elim (dichotomy (is_dummy x)) [
  | inr t ↦ absurd (let z : ◌≡◌ {A = ℕ} 0 1 = cc (rw t at e) in omega arith)
  | inl f ↦ rw f (ap suc (all-real xs (rw f at e)))
]

module _ (s : Sizes) (u : World) (p : Option Request) (q : Queue) (h : Holds s u p q) (roomy : leaves_of s.h ≤ s.r) where
  abbrev k : Card
  k = u.card

  not_full : (length q.events ≡ leaves_of s.h → ⊥) → root_full s.r k.root ≡ false
  unfolding root_full
  not_full less =
      let own = h.stands.sizes in
      let heap = h.stands.ready.heap in
      let c : k.c ≡ length q.events = (stands-plainly s u p q h.stands).count in
      let g = good k (ready-card k u.tree h.stands.live h.stands.ready) in
      let most = (in-range k.sizes heap.sizes).roots.1 in
      elim (dichotomy (every (λ x. not (is_dummy x)) (take s.r k.root))) [
        | inl f ↦ f
        | inr t ↦
            let many = all-real (take s.r k.root) t in
            let few = rw own at g.parts.few in
            let live = rw own at g.parts.live.0 in
            let place = rw own at most in
            absurd (omega (arith, few, live, less, c, many, length-take s.r k.root, heap.places, place))
      ]

  -- a call that does not overflow
  not-ten : (c : Call) → refusal_of s k.root p q c ≡ 10 → ⊥
  not-ten =
      refusal_is s k.root p q (λ n. n ≡ 10 → ⊥) (λ e. omega arith) (λ n l m e. omega arith)
      (λ less full e. true≢false (sym full ∙ not_full less)) (λ e. omega arith)

  step-ten : (c : Call) → number_given (step u c) ≡ 10 → ⊥
  step-ten c e =
      ⊎_elim (λ (n : Refuses s u p q c (step u c)). not-ten c (sym n.why ∙ sym (ap number_of n.given) ∙ e))
      (λ (a : Goes s u p q c (step u c)). omega (arith, a.answers.passes, e)) (plays s u p q h c).card

-- ---- every list of calls
calm : (s : Sizes) → leaves_of s.h ≤ s.r → (cs : List Call) (u : World) (p : Option Request) (q : Queue) → Holds s u p q → until_overflow u cs ≡ length cs
unfolding until_overflow
calm s roomy [] u p q h = refl
calm s roomy (c ∷ cs) u p q h =
    rw (ne_eqb (number_given (step u c)) 10 (step-ten s u p q h roomy c))
    (ap suc (⊎_elim
    (λ (n : Refuses s u p q c (step u c)). calm s roomy cs (step u c).world p q (subst (λ (v : World). Holds s v p q) (sym n.unchanged) h))
    (λ (a : Goes s u p q c (step u c)). calm s roomy cs (step u c).world (pending_after p c) (next q (operation_of p c)) a.holds)
    (plays s u p q h c).card))

pub never-overflows : (s : Sizes) → in_range s ≡ true → leaves_of s.h ≤ s.r → (cs : List Call) → NeverOverflows s cs
never-overflows s ok roomy cs label below =
    calm s roomy (labelled label 0 cs) (fresh_world s) None empty_queue (fresh_holds s ok) ∙ length-given label 0 cs
