-- Demand 2, proved: specs/Demand2.antt. Assumes nothing.
use mathlib.Core.Bool.{true}
use mathlib.Core.List.{List, []}
use mathlib.Core.Logic.{⊎_elim}
use mathlib.Core.Path.{◌≡◌, refl, sym, subst}
use Rattle.std.specs.Prelude.{Option, None}
use Rattle.path.specs.declared.sizes.Sizes.{Sizes}
use Rattle.path.specs.Sizes.{in_range}
use Rattle.lists.specs.BucketList.{laid, counts}
use Rattle.card.specs.declared.Card.{Card}
use Rattle.served.proofs.CallLaws.{start-ready}
use Rattle.demands.specs.Queue.{Queue, empty_queue, next}
use Rattle.world.specs.World.{World, holding_list, fresh_world, Call, begin, finish, withdraw, find_min, Outcome, step, outcomes}
use Rattle.demands.specs.Says.{pending_after, operation_of}
use Rattle.world.specs.Promised.{Carried, ended as none, called}
use Rattle.demands.specs.Demand2.{Refuses, Run, ended, refused, answered, Demand2}
use Rattle.demands.proofs.AnswerLaws.{queue_of}
use Rattle.world.proofs.PromisedLaws.{promised-step, outcomes-carried}
use Rattle.demands.proofs.StepLaws.{held_for, Holds, Goes, Plays, plays-begin, plays-withdraw, plays-min}
use Rattle.demands.proofs.FinishLaws.{plays-finish}
use Rattle.request.specs.declared.Request.{Request}

-- ---- one call on a world that stands
module _ (s : Sizes) (u : World) (p : Option Request) (q : Queue) (h : Holds s u p q) where
  abbrev k : Card
  k = u.card

  -- world and queue as the laws of one call write them
  abbrev written : World
  written = holding_list k u.tree (laid (held_for k k.waiting) h.places) (counts (held_for k k.waiting))

  same-world : written ≡ u
  same-world =
      let list = sym h.list in
      let many = sym h.counts in
      λ i. holding_list k u.tree (list i) (many i)

  abbrev queue : Queue
  queue = queue_of h.stands.live k.t

  same_queue : queue ≡ q
  same_queue =
      let events = h.stands.events in
      let taken = h.stands.taken in
      λ i. record { events = events i; taken = taken i }

  each : (c : Call) → Plays k.sizes written k.waiting queue c (step written c)
  each (begin asked lent) = plays-begin k u.tree h.places h.stands.live h.stands.ready h.word asked lent
  each (finish words) = plays-finish k u.tree h.places h.stands.live h.stands.ready k.waiting refl h.word words
  each withdraw = plays-withdraw k u.tree h.places h.stands.live h.stands.ready h.word
  each find_min = plays-min k u.tree h.places h.stands.live h.stands.ready h.word

  pub plays : (c : Call) → Plays s u p q c (step u c)
  plays c =
      let on-world = subst (λ (v : World). Plays k.sizes v k.waiting queue c (step v c)) same-world (each c) in
      let on-queue = subst (λ (x : Queue). Plays k.sizes u k.waiting x c (step u c)) same_queue on-world in
      let pending = subst (λ (w : Option Request). Plays k.sizes u w q c (step u c)) h.stands.waiting on-queue in
      subst (λ (z : Sizes). Plays z u p q c (step u c)) h.stands.sizes pending

-- ---- a fresh world stands
pub fresh_holds : (s : Sizes) → in_range s ≡ true → Holds s (fresh_world s) None empty_queue
fresh_holds s ok =
    record {
      stands = record { sizes = refl; waiting = refl; live = []; ready = start-ready s ok; events = refl; taken = refl };
      word = tt;
      places = [];
      list = refl;
      counts = refl;
    }

-- ---- call after call
pub follow : (s : Sizes) {u : World} {cs : List Call} {os : List Outcome} → Carried u cs os → (p : Option Request) (q : Queue) → Holds s u p q
    → Run s u p q cs os
follow s none p q h = ended h.stands
follow s {u} (called {c} {o} {cs} {os} promised rest) p q h =
    let one : Plays s u p q c o = subst (Plays s u p q c) (sym (promised-step promised)) (plays s u p q h c) in
    ⊎_elim
    (λ (n : Refuses s u p q c o).
    refused h.stands one.rack n (follow s rest p q (subst (λ (v : World). Holds s v p q) (sym n.unchanged) h)))
    (λ (a : Goes s u p q c o). answered h.stands one.rack a.answers (follow s rest (pending_after p c) (next q (operation_of p c)) a.holds))
    one.card

pub demand2 : Demand2
demand2 s ok cs os honest = follow s honest None empty_queue (fresh_holds s ok)

-- the steps of World.antt are such a run
pub demand2-steps : (s : Sizes) → in_range s ≡ true → (cs : List Call) → Run s (fresh_world s) None empty_queue cs (outcomes (fresh_world s) cs)
demand2-steps s ok cs = demand2 s ok cs (outcomes (fresh_world s) cs) (outcomes-carried (fresh_world s) cs)
