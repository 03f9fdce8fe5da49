-- Demand 2, of whatever the contracts of `card` and `rack` promise: every list of calls, from a fresh card and a filled tree, is
-- answered as the plain queue answers it, if the rack is honest (`HonestRack`). Proved as `demand2` in proofs/Demand2.antt.
-- What a run is judged by is worked out from the sizes and the calls alone, never from the card: the pending request p and the
-- queue q. Only Overflow asks the card, for its root's slots. Assumes nothing.
use Rattle.std.specs.Prelude.{ℕ, ◌<◌, true, List, [], ◌∷◌, map, ◌⊎◌, ◌≡◌, length, Option, None, Some}
use Rattle.record.specs.declared.Record.{Record}
use Rattle.path.specs.declared.sizes.Sizes.{Sizes}
use Rattle.path.specs.Sizes.{in_range}
use Rattle.request.specs.declared.Request.{Request}
use Rattle.request.specs.Job.{job_of}
use Rattle.listing.specs.Listing.{words_asked}
use Rattle.answers.specs.declared.Answer.TheVariants.{Refused}
use Rattle.answers.specs.Answers.{number_of}
use Rattle.served.specs.Ready.{Ready}
use Rattle.demands.specs.Queue.{Queue, empty_queue, reply, next}
use Rattle.world.specs.World.{World, fresh_world, Call, begin, finish, withdraw, find_min, Outcome}
use Rattle.demands.specs.Says.{event_of, pending_after, operation_of, says}
use Rattle.demands.specs.Refusals.{parts_told, refusal_of}
use Rattle.world.specs.Promised.{Carried}

-- ---- before and after every call
-- The card has the sizes that it was started with, and the pending request waits on it. Card and tree hold a good heap (`Ready`,
-- served/specs/Ready.antt: each live event in exactly one slot, on the path of its label, no slot with anything else but the
-- dummy, every least record true, c the number of live events) of the queue's events.
pub record Stands (s : Sizes) (u : World) (p : Option Request) (q : Queue) : Type 0 where
  pub sizes : u.card.sizes ≡ s
  pub waiting : u.card.waiting ≡ p
  pub live : List Record
  pub ready : Ready u.card u.tree live
  pub events : map event_of live ≡ q.events
  pub taken : u.card.t ≡ q.taken

-- ---- one call
module _ (s : Sizes) (u : World) (p : Option Request) (q : Queue) (c : Call) (o : Outcome) where
  -- A refused call has the number that queue and pending request tell, so neither 12 nor 13, and leaves all as it was.
  pub record Refuses : Type 0 where
    pub number : ℕ
    pub given : o.answer ≡ Refused number
    pub some : number ≡ 0 → ⊥
    pub why : number ≡ refusal_of s u.card.root p q c
    pub unchanged : o.world ≡ u
    pub not_damaged : number ≡ 12 → ⊥
    pub not_bad_card : number ≡ 13 → ⊥

  -- Any other is one that they do not refuse, and answers as the queue.
  pub record Answers : Type 0 where
    pub passes : number_of o.answer ≡ 0
    pub why : refusal_of s u.card.root p q c ≡ 0
    pub same : says o.answer ≡ reply q (operation_of p c)

-- the words lent to a finish are fewer than the pending request needs
abbrev pub FewFor : Sizes → Option Request → Queue → ℕ → Type 0
FewFor s None q room = ⊥
FewFor s (Some r) q room = room < words_asked s (job_of (parts_told s q) r)

abbrev pub TooFew : Sizes → Option Request → Queue → Call → Type 0
TooFew s p q (begin asked places) = ⊥
TooFew s p q (finish words) = FewFor s p q (length words)
TooFew s p q withdraw = ⊥
TooFew s p q find_min = ⊥

-- the rack refuses neither with 1 nor with 14, and with 11 for too few words alone
pub record RackPasses (s : Sizes) (p : Option Request) (q : Queue) (c : Call) (o : Outcome) : Type 0 where
  pub fetch : (o.fetch ≡ 0) ⊎ ((o.fetch ≡ 11) × TooFew s p q c)
  pub store : o.store ≡ 0

-- ---- every list of calls, one after the other, with what comes of each
pub data Run (s : Sizes) : World → Option Request → Queue → List Call → List Outcome → Type 0 where
  ended : {u : World} {p : Option Request} {q : Queue} → Stands s u p q → Run s u p q [] []
  refused : {u : World} {p : Option Request} {q : Queue} {c : Call} {o : Outcome} {cs : List Call} {os : List Outcome} → Stands s u p q
      → RackPasses s p q c o → Refuses s u p q c o → Run s o.world p q cs os → Run s u p q (c ∷ cs) (o ∷ os)
  answered : {u : World} {p : Option Request} {q : Queue} {c : Call} {o : Outcome} {cs : List Call} {os : List Outcome} → Stands s u p q
      → RackPasses s p q c o → Answers s u p q c o → Run s o.world (pending_after p c) (next q (operation_of p c)) cs os
      → Run s u p q (c ∷ cs) (o ∷ os)

-- The premise that the rack is honest, for "An older true copy of the tree can't be told apart": what comes of each call is what the
-- contracts promise on the world that the call before it left (`Carried`, world/specs/Promised.antt). So each fetch reads the tree that the last
-- store left, and "this store is done before the next begin". The steps of `world` keep it (`outcomes-carried`).
abbrev pub HonestRack : Sizes → List Call → List Outcome → Type 0
HonestRack s cs os = Carried (fresh_world s) cs os

-- Overflow ends nothing: it is refused like any other, and the run goes on.
abbrev pub Demand2 : Type 0
Demand2 =
    (s : Sizes) → in_range s ≡ true → (cs : List Call) (os : List Outcome) → HonestRack s cs os
    → Run s (fresh_world s) None empty_queue cs os
