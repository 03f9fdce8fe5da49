-- One call on a world that stands: refused, with all as it was, or answered as the queue, and the world stands again.
-- Assumes nothing.
use Prim.Native.Nat.{ℕ, ◌≤◌}
use mathlib.Core.List.{List, []}
use mathlib.Core.Logic.{◌⊎◌, inl, inr}
use mathlib.Core.Path.{◌≡◌, refl, sym, ap, ◌∙◌, subst}
use mathlib.Mathlib.Data.Bool.Basic.{dichotomy}
use native.Mathlib.Omega.{arith}
use lib.Dec.{eqb}
use lib.ListN.{length}
use borrow.Author.Tests.{eqb-true, eqb-false}
use Rattle.std.specs.Prelude.{Option, None, Some}
use Rattle.record.specs.declared.Record.{Record}
use Rattle.path.specs.declared.sizes.Sizes.{Sizes}
use Rattle.lists.specs.BucketList.{BucketList, no_buckets, laid, counts}
use Rattle.refusal.specs.Refusal.{first_given}
use Rattle.refusal.proofs.RefusalLaws.{none-given}
use Rattle.card.specs.declared.Card.{Card}
use Rattle.request.specs.declared.Request.{Request}
use Rattle.answers.specs.declared.Answer.{Answer}
use Rattle.answers.specs.declared.Answer.TheVariants.{Refused}
use Rattle.request.specs.Tables.{waits}
use Rattle.card.specs.BadCard.{bad_card}
use Rattle.checks.specs.Checks.{call_rows}
use Rattle.card.specs.Calls.{call_table, list_of, begin_table, min_table, found_min, withdraw_table, withdrawn, with_waiting}
use Rattle.card.proofs.BeginLaws.{accepted}
use Rattle.card.proofs.CallLaws.{same-list}
use Rattle.served.specs.Ready.{Ready}
use Rattle.served.proofs.CallLaws.{begin-ready, withdraw-ready}
use Rattle.served.proofs.FinishedLaws.{WordKey}
use Rattle.demands.specs.Queue.{Queue, next, told}
use Rattle.world.specs.World.{World, holding_list, Asked, insert, extract, delete, Call, begin, withdraw, find_min, Outcome, step}
use Rattle.world.proofs.WorldLaws.{quiet, alone-done, alone-refused, begin-done, begin-refused}
use Rattle.demands.specs.Says.{pending_after, operation_of}
use Rattle.demands.specs.Refusals.{refusal_of}
use Rattle.demands.specs.Demand2.{Stands, Refuses, Answers, RackPasses}
use Rattle.demands.proofs.AnswerLaws.{queue_of, least-told}
use Rattle.demands.proofs.RefusalsLaws.{refusal-most, call-number}

-- ---- what holds between two calls, and what one call keeps
-- a world that stands, and the list that is held is the one of the request that waits
abbrev pub held_for : Card → Option Request → BucketList
held_for k None = no_buckets
held_for k (Some r) = list_of k r

abbrev pub Worded : Option Request → Type 0
Worded None = Unit {0}
Worded (Some r) = WordKey r

pub record Holds (s : Sizes) (u : World) (p : Option Request) (q : Queue) : Type 0 where
  pub stands : Stands s u p q
  pub word : Worded u.card.waiting
  pub places : List ℕ
  pub list : u.list ≡ laid (held_for u.card u.card.waiting) places
  pub counts : u.counts ≡ counts (held_for u.card u.card.waiting)

module _ (s : Sizes) (u : World) (p : Option Request) (q : Queue) (c : Call) (o : Outcome) where
  -- answered, and the world holds again
  pub record Goes : Type 0 where
    pub answers : Answers s u p q c o
    pub holds : Holds s o.world (pending_after p c) (next q (operation_of p c))

  pub record Plays : Type 0 where
    pub rack : RackPasses s p q c o
    pub card : Refuses s u p q c o ⊎ Goes

-- ---- a call of the card alone
quiet-rack : (s : Sizes) (p : Option Request) (q : Queue) (v : World) (c : Call) (a : Answer) → RackPasses s p q c (quiet v a)
quiet-rack s p q v c a = record { fetch = inl refl; store = refl }

-- refused for what queue and pending request tell
pub refused_as : (s : Sizes) (u : World) (p : Option Request) (q : Queue) (c : Call) (o : Outcome) (n : ℕ) → o.answer ≡ Refused n → o.world ≡ u
    → (n ≡ 0 → ⊥) → n ≡ refusal_of s u.card.root p q c → Refuses s u p q c o
refused_as s u p q c o n given unchanged h why =
    let most = refusal-most s u.card.root p q c in
    record {
      number = n;
      given = given;
      some = h;
      why = why;
      unchanged = unchanged;
      not_damaged = λ e. omega (arith, most, why, e);
      not_bad_card = λ e. omega (arith, most, why, e);
    }

plays-refused : (s : Sizes) (u : World) (p : Option Request) (q : Queue) (c : Call) (n : ℕ) → (n ≡ 0 → ⊥) → n ≡ refusal_of s u.card.root p q c
    → Plays s u p q c (quiet u (Refused n))
plays-refused s u p q c n h why =
    record { rack = quiet-rack s p q u c (Refused n); card = inl (refused_as s u p q c (quiet u (Refused n)) n refl refl h why) }

-- ---- a world whose list is the one of the request that waits
asked-word : {r : Request} → Asked r → WordKey r
asked-word (insert key) = key
asked-word extract = tt
asked-word delete = tt

module _ (k : Card) (tree places : List ℕ) (live : List Record) (r : Ready k tree live) (word : Worded k.waiting) where
  abbrev l : BucketList
  l = held_for k k.waiting

  abbrev u : World
  u = holding_list k tree (laid l places) (counts l)

  abbrev q : Queue
  q = queue_of live k.t

  -- one call on it
  abbrev Played : Call → Outcome → Type 0
  Played c o = Plays k.sizes u k.waiting q c o

  abbrev refused_with : (c : Call) (n : ℕ) → (n ≡ 0 → ⊥) → n ≡ refusal_of k.sizes k.root k.waiting q c → Played c (quiet u (Refused n))
  refused_with = plays-refused k.sizes u k.waiting q

  holds-again : Holds k.sizes u k.waiting q
  holds-again =
      record {
        stands = record { sizes = refl; waiting = refl; live = live; ready = r; events = refl; taken = refl };
        word = word;
        places = places;
        list = refl;
        counts = refl;
      }

  -- ---- begin
  pub plays-begin : {w : Request} (asked : Asked w) (lent : List ℕ) → Played (begin asked lent) (step u (begin asked lent))
  unfolding step
  plays-begin {w} asked lent =
      let n = first_given (begin_table k w (length lent)) in
      elim (dichotomy (eqb n 0)) [
        | inl f ↦
            subst (Played (begin asked lent))
            (begin-refused u w lent (eqb-false n 0 f))
            (refused_with (begin asked lent) n (eqb-false n 0 f) (call-number k tree live r (begin asked lent)))
        | inr t ↦
            let a = accepted k w (length lent) (eqb-true n 0 t) in
            let same = sym (same-list (with_waiting k (Some w)) k w refl refl) in
            subst (Played (begin asked lent))
            (begin-done u w lent (eqb-true n 0 t))
            (record {
              rack = quiet-rack k.sizes k.waiting q _ (begin asked lent) _;
              card = inr (record {
                answers = record { passes = refl; why = sym (call-number k tree live r (begin asked lent)) ∙ eqb-true n 0 t; same = refl };
                holds = record {
                  stands = record { sizes = refl; waiting = refl; live = live; ready = begin-ready k tree live w r a.request; events = refl; taken = refl };
                  word = asked-word asked;
                  places = lent;
                  list = ap (λ (m : BucketList). laid m lent) same;
                  counts = ap counts same;
                };
              });
            })
      ]

  -- ---- withdraw and FindMin
  pub plays-withdraw : Played withdraw (step u withdraw)
  unfolding step
  plays-withdraw =
      let n = first_given (withdraw_table k) in
      elim (dichotomy (eqb n 0)) [
        | inl f ↦
            subst (Played withdraw) (alone-refused u n (withdrawn k) [] (counts no_buckets) (eqb-false n 0 f))
            (refused_with withdraw n (eqb-false n 0 f) (call-number k tree live r withdraw))
        | inr t ↦
            subst (Played withdraw) (alone-done u n (withdrawn k) [] (counts no_buckets) (eqb-true n 0 t))
            (record {
              rack = quiet-rack k.sizes k.waiting q _ withdraw _;
              card = inr (record {
                answers = record { passes = refl; why = sym (call-number k tree live r withdraw) ∙ eqb-true n 0 t; same = refl };
                holds = record {
                  stands = record { sizes = refl; waiting = refl; live = live; ready = withdraw-ready k tree live r; events = refl; taken = refl };
                  word = tt;
                  places = [];
                  list = refl;
                  counts = refl;
                };
              });
            })
      ]

  -- events are live where FindMin is not refused
  min-live : first_given (min_table k) ≡ 0 → 1 ≤ k.c
  unfolding call_table call_rows
  min-live e =
      let a = none-given 13 (bad_card k) _ (omega arith) e in
      let b = none-given 2 (waits k.waiting) _ (omega arith) a.1 in
      let d = none-given 8 (eqb k.c 0) [] (omega arith) b.1 in
      omega (arith, eqb-false k.c 0 d.0)

  pub plays-min : Played find_min (step u find_min)
  unfolding step
  plays-min =
      let n = first_given (min_table k) in
      elim (dichotomy (eqb n 0)) [
        | inl f ↦
            subst (Played find_min) (alone-refused u n (found_min k) u.list u.counts (eqb-false n 0 f))
            (refused_with find_min n (eqb-false n 0 f) (call-number k tree live r find_min))
        | inr t ↦
            subst (Played find_min) (alone-done u n (found_min k) u.list u.counts (eqb-true n 0 t))
            (record {
              rack = quiet-rack k.sizes k.waiting q _ find_min _;
              card = inr (record {
                answers = record {
                  passes = refl;
                  why = sym (call-number k tree live r find_min) ∙ eqb-true n 0 t;
                  same = ap told (sym (least-told k tree live r (min-live (eqb-true n 0 t))));
                };
                holds = holds-again;
              });
            })
      ]
