-- The contracts leave one outcome of each call, and it is the one of `step`, which keeps them. Assumes nothing.
use Prim.Native.Nat.{ℕ, zero, suc}
use mathlib.Core.Bool.{true}
use mathlib.Core.List.{List, [], ◌∷◌}
use mathlib.Core.Logic.{inl, inr}
use mathlib.Core.Path.{◌≡◌, refl, sym, ap, ◌∙◌, subst}
use mathlib.Mathlib.Data.Bool.Basic.{dichotomy}
use lib.Dec.{eqb}
use lib.ListN.{length}
use borrow.Author.Tests.{eq-eqb, eqb-true, eqb-false}
use Rattle.std.specs.Prelude.{Result, Ok, Err, ⊤, Option, None, Some}
use Rattle.path.specs.declared.sizes.Sizes.{Sizes}
use Rattle.path.specs.Sizes.{tree_in, in_range}
use Rattle.path.specs.Layout.{tree_words, fresh_tree}
use Rattle.lists.specs.declared.Listed.{Listed as Counts}
use Rattle.lists.specs.BucketList.{no_buckets, counts}
use Rattle.refusal.specs.declared.Reason.{Reason}
use Rattle.refusal.specs.declared.Reason.TheVariants.{BadSize, ShortRoom, BadBucket}
use Rattle.refusal.specs.Reason.{refusal_in}
use Rattle.refusal.specs.Refusal.{first_given, afterwards}
use Rattle.refusal.proofs.RefusalLaws.{left-before, left-done, none, next, first_of, append-none}
use Rattle.rack.specs.Answers.{fill_refusal}
use Rattle.rack.specs.Promises.{Fills}
use Rattle.request.specs.declared.Request.{Request}
use Rattle.card.specs.declared.Card.{Card}
use Rattle.card.specs.declared.Done.{Done as CardDone}
use Rattle.answers.specs.Answers.{number_of}
use Rattle.card.specs.Answers.{or_refused, Answered}
use Rattle.card.specs.Calls.{start_table, started, zero_card, Begins, begin_table, begun, list_of, found_min, withdrawn}
use Rattle.card.specs.Finish.{finish_table, finished_for, finished, Finishes}
use Rattle.card.proofs.FinishLaws.{entry-numbered, some-waits}
use Rattle.card.proofs.FinishedLaws.{finished-number, finishes}
use Rattle.world.specs.World.{World, Call, begin, finish, withdraw, find_min, Outcome, alone, after_begin, rack_number, shown, finish_number, words_after, stored_from, finishing, after_finish, step, outcomes}
use Rattle.world.specs.Promised.{counts_in, Promised, by-begin, by-withdraw, by-min, by-refused, by-finish, Carried, ended, called, told, unstored, all_done, FetchesHeld, StoresHeld}

-- a call of the card alone
alone-told : (u : World) (n : ℕ) (done d : CardDone) (list : List ℕ) (many : Counts) → Answered u.card n done d
    → told u d list many ≡ alone u n done list many
alone-told u n done d list many a =
    let number = a.numbered in
    let whole = a.whole in
    λ i.
    record {
      world = record {
        card = (whole i).card;
        tree = u.tree;
        list = afterwards (number i) list u.list;
        counts = afterwards (number i) many u.counts;
      };
      answer = (whole i).answer;
      fetch = 0;
      store = 0;
    }

-- the list does not matter where a number is given
alone-agree : (u : World) (n : ℕ) (done : CardDone) (list list' : List ℕ) (many many' : Counts) → (n ≡ 0 → list ≡ list')
    → (n ≡ 0 → many ≡ many') → alone u n done list many ≡ alone u n done list' many'
alone-agree u zero done list list' many many' p q =
    let pe = p refl in
    let qe = q refl in
    λ i. alone u 0 done (pe i) (qe i)
alone-agree u (suc n) done list list' many many' p q = refl

pub begin-told : (u : World) (w : Request) (lent after : List ℕ) (d : CardDone) → Begins u.card w lent after d
    → told u d after (counts_in d.answer) ≡ after_begin u w lent
unfolding after_begin or_refused
begin-told u w lent after d b =
    let n = first_given (begin_table u.card w (length lent)) in
    let is : n ≡ 0 → d ≡ begun u.card w = λ e. b.call.whole ∙ left-done n _ _ e in
    alone-told u n (begun u.card w) d after (counts_in d.answer) b.call
    ∙ alone-agree u n (begun u.card w) after _ (counts_in d.answer) (counts (list_of u.card w))
    (λ e. b.places ∙ left-done n _ _ e) (λ e. ap (λ (x : CardDone). counts_in x.answer) (is e))

module _ (u : World) (words ws after : List ℕ) (a : Result ⊤ Reason) (d : CardDone) (f : FetchesHeld u words a ws) (g : Finishes u.card ws after d) where
  fetched-so : finishing u (refusal_in a) ws ≡ after_finish u words
  unfolding after_finish
  fetched-so =
      let number = f.number in
      let lent = f.lent in
      λ i. finishing u (number i) (lent i)

  pub refused-told : (number_of d.answer ≡ 0 → ⊥) → unstored u d a ≡ after_finish u words
  refused-told some =
      let number = g.call.numbered in
      let answer = g.call.whole in
      let given : finish_number u ws ≡ 0 → ⊥ = λ e. some (number ∙ e) in
      let tree = sym (left-before (finish_number u ws) (stored_from u (words_after u ws)) u.tree given) in
      let store = sym (left-before (finish_number u ws) (rack_number u (words_after u ws)) 0 given) in
      let same : unstored u d a ≡ finishing u (refusal_in a) ws =
      λ i.
      record {
        world = record {
          card = (answer i).card;
          tree = tree i;
          list = afterwards (number i) [] u.list;
          counts = afterwards (number i) (counts no_buckets) u.counts;
        };
        answer = (answer i).answer;
        fetch = refusal_in a;
        store = store i;
      } in
      same ∙ fetched-so

  pub done-told : number_of d.answer ≡ 0 → (tree : List ℕ) (b : Result ⊤ Reason) → StoresHeld u after b tree → all_done d a b tree ≡ after_finish u words
  done-told well tree b s =
      let n = finish_number u ws in
      let answer = g.call.whole in
      let none = sym g.call.numbered ∙ well in
      let trees = s.lent ∙ ap (stored_from u) g.words ∙ sym (left-done n (stored_from u (words_after u ws)) u.tree none) in
      let stores = s.number ∙ ap (rack_number u) g.words ∙ sym (left-done n (rack_number u (words_after u ws)) 0 none) in
      let lists = sym (left-done n [] u.list none) in
      let many = sym (left-done n (counts no_buckets) u.counts none) in
      let same : all_done d a b tree ≡ finishing u (refusal_in a) ws =
      λ i.
      record {
        world = record { card = (answer i).card; tree = trees i; list = lists i; counts = many i };
        answer = (answer i).answer;
        fetch = refusal_in a;
        store = stores i;
      } in
      same ∙ fetched-so

-- what the contracts promise of a call is its step
pub promised-step : {u : World} {c : Call} {o : Outcome} → Promised u c o → o ≡ step u c
unfolding step
promised-step {u} (by-begin {r = w} asked lent after d b) = begin-told u w lent after d b
promised-step {u} (by-withdraw d a) = alone-told u _ _ d [] (counts no_buckets) a
promised-step {u} (by-min d a) = alone-told u _ _ d u.list u.counts a
promised-step {u} (by-refused words ws after a d f g n) = refused-told u words ws after a d f g n
promised-step {u} (by-finish words ws after tree a b d f g n s) = done-told u words ws after a d f g n tree b s

-- and so call after call
pub carried-outcomes : {u : World} {cs : List Call} {os : List Outcome} → Carried u cs os → os ≡ outcomes u cs
unfolding outcomes
carried-outcomes ended = refl
carried-outcomes {u} (called {c} {o} {cs} {os} p rest) =
    let now = promised-step p in
    let later = carried-outcomes rest in
    λ i. now i ∷ (later ∙ ap (λ (x : Outcome). outcomes x.world cs) now) i

-- ---- the contracts can be kept: the steps are what they promise
answered-so : (k : Card) (n : ℕ) (done : CardDone) → (n ≡ 0 → number_of done.answer ≡ 0) → Answered k n done (or_refused k n done)
unfolding or_refused
answered-so k zero done e = record { whole = refl; numbered = e refl; valued = refl }
answered-so k (suc n) done e = record { whole = refl; numbered = refl; valued = refl }

-- the rack has an answer for each of its numbers
copy-answer : (u : World) (words : List ℕ) → (a : Result ⊤ Reason) × (refusal_in a ≡ rack_number u words)
copy-answer u words =
    first_of {P = λ n. (a : Result ⊤ Reason) × (refusal_in a ≡ n)} (Ok tt, refl)
    (next 1 (Err BadSize, refl) (next 11 (Err ShortRoom, refl) (next 11 (Err ShortRoom, refl) (next 11 (Err ShortRoom, refl) (next 14 (Err BadBucket, refl) none)))))

finish-done : (k : Card) (ws : List ℕ) → first_given (finish_table k ws) ≡ 0 → (w : Option Request) → k.waiting ≡ w → number_of (finished_for k w ws).answer ≡ 0
finish-done k ws e None idle = absurd (some-waits k (length ws) (append-none _ (entry-numbered k (length ws)) e).0 idle)
finish-done k ws e (Some r) busy = finished-number k r _

kept : {u : World} {c : Call} {o : Outcome} → Promised u c o → Promised u c (step u c)
kept {u} {c} p = subst (Promised u c) (promised-step p) p

finish-promised : (u : World) (words : List ℕ) → Promised u (finish words) (step u (finish words))
finish-promised u words =
    let ws = shown u words in
    let after = words_after u ws in
    let d = or_refused u.card (finish_number u ws) (finished u.card ws) in
    let (a, fetch) = copy-answer u words in
    let (b, store) = copy-answer u after in
    let f : FetchesHeld u words a ws = record { number = fetch; lent = refl } in
    let call = answered-so u.card (finish_number u ws) (finished u.card ws) (λ e. finish-done u.card ws e u.card.waiting refl) in
    let g : Finishes u.card ws after d = finishes u.card ws after d call refl in
    elim (dichotomy (eqb (number_of d.answer) 0)) [
      | inl n ↦ kept (by-refused words ws after a d f g (eqb-false _ _ n))
      | inr n ↦ kept (by-finish words ws after (stored_from u after) a b d f g (eqb-true _ _ n) (record { number = store; lent = refl }))
    ]

pub step-promised : (u : World) (c : Call) → Promised u c (step u c)
step-promised u (begin {r = w} asked lent) =
    kept (by-begin asked lent _ _ (record { call = answered-so u.card _ (begun u.card w) (λ e. refl); places = refl }))
step-promised u (finish words) = finish-promised u words
step-promised u withdraw = kept (by-withdraw _ (answered-so u.card _ (withdrawn u.card) (λ e. refl)))
step-promised u find_min = kept (by-min _ (answered-so u.card _ (found_min u.card) (λ e. refl)))

pub outcomes-carried : (u : World) (cs : List Call) → Carried u cs (outcomes u cs)
unfolding outcomes
outcomes-carried u [] = ended
outcomes-carried u (c ∷ cs) = called (step-promised u c) (outcomes-carried (step u c).world cs)

-- ---- the world that start and fill promise is the fresh one
pub start-fresh : (s : Sizes) → in_range s ≡ true → (d : CardDone) → Answered zero_card (first_given (start_table s)) (started s) d → d ≡ started s
unfolding or_refused start_table first_given
start-fresh s ok d a = rw ok at a.whole

pub fill-fresh : (h z : ℕ) (tree after : List ℕ) (answer : Result ⊤ Reason) → tree_in h z ≡ true → length tree ≡ tree_words h z
    → Fills h z tree answer after → (refusal_in answer ≡ 0) × (after ≡ fresh_tree h z)
unfolding first_given
fill-fresh h z tree after answer ok long f =
    let none : fill_refusal h z tree ≡ 0 = rw (ok, eq-eqb (length tree) (tree_words h z) long) in
    (f.number ∙ none, rw none at f.lent)
