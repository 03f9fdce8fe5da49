-- The wrong versions that document 01 names break demand 2: specs/Table.antt. Assumes nothing.
use Prim.Native.Nat.{ℕ, zero, suc, ◌≤◌}
use mathlib.Core.Bool.{Bool, true, false, true≢false}
use mathlib.Core.List.Memᴰ
use mathlib.Core.List.{List, [], ◌∷◌, Memᴰ}
use mathlib.Core.Logic.{◌⊎◌, inl, inr, ⊎_elim}
use mathlib.Core.Path.{◌≡◌, refl, sym, ap, subst, ◌∙◌}
use native.Mathlib.Decide.{dec_lt}
use native.Mathlib.Omega.{arith}
use lib.ListN.{length, get_or}
use Rattle.std.specs.Prelude.{Option, None, Some}
use Rattle.record.specs.declared.Bucket.{Bucket}
use Rattle.record.specs.declared.Record.{Record}
use Rattle.record.specs.Many.{every}
use Rattle.record.specs.Standing.{dummy_key, dummy, same, is_dummy}
use Rattle.path.specs.declared.sizes.Sizes.{Sizes}
use Rattle.path.specs.Sizes.{between, tree_in, in_range}
use Rattle.path.specs.Path.{path_bucket, sibling_of, up_from, path}
use Rattle.lists.specs.BucketList.{pair_list, path_list}
use Rattle.refusal.specs.Refusal.{first_given}
use Rattle.root.specs.Root.{root_full}
use Rattle.request.specs.declared.Request.{Request}
use Rattle.request.specs.declared.Request.TheVariants.{Extract}
use Rattle.request.specs.Tables.{insert_rows, extract_rows, request_rows, waits}
use Rattle.checks.specs.Checks.{call_rows}
use Rattle.answers.specs.declared.Answer.{Answer}
use Rattle.tree.specs.Tree.{InTree}
use Rattle.world.specs.World.{World, fresh_world, extract, Call, Outcome, step, outcomes}
use Rattle.demands.specs.Queue.{Event, Queue, empty_queue, least_event, taken_out, Reply, referred, told, was_found, silent, next}
use Rattle.demands.specs.Says.{event_of, pending_after, operation_of, says}
use Rattle.demands.specs.Refusals.{refusal_of}
use Rattle.demands.specs.Demand2.{Stands, Refuses, Answers, Run, ended, refused, answered}
use Rattle.demands.specs.Plainly.{in_slot, buckets}
use Rattle.demands.specs.Table.{begins, first_insert, ends, lines, up_to_removal, table_sizes, Version, removes, RefusesAll, AnswersOne, DoesNothing, FinishesIdly, Comes, Breaks}
use Rattle.demands.proofs.StandsLaws.{stands-plainly}
use Rattle.demands.proofs.Demand2.{demand2-steps}

-- ---- the first call of a run
module _ (s : Sizes) (u : World) (p : Option Request) (q : Queue) where
  pub record First (c : Call) (o : Outcome) (cs : List Call) (os : List Outcome) : Type 0 where
    pub stands : Stands s u p q
    pub goes :
        Refuses s u p q c o ⊎ (Answers s u p q c o × Run s o.world (pending_after p c) (next q (operation_of p c)) cs os)

  abbrev FirstOf : List Call → List Outcome → Type 0
  FirstOf [] os = Stands s u p q
  FirstOf (c ∷ cs) [] = ⊥
  FirstOf (c ∷ cs) (o ∷ os) = First c o cs os

first : {s : Sizes} {u : World} {p : Option Request} {q : Queue} {cs : List Call} {os : List Outcome} → Run s u p q cs os → FirstOf s u p q cs os
first (ended h) = h
first (refused h r n rest) = record { stands = h; goes = inl n }
first (answered h r a rest) = record { stands = h; goes = inr (a, rest) }

-- where neither queue nor pending request tells a refusal, the call is answered
module _ {s : Sizes} {u : World} {p : Option Request} {q : Queue} {c : Call} {o : Outcome} {cs : List Call} {os : List Outcome}
    (none : refusal_of s u.card.root p q c ≡ 0) (f : First s u p q c o cs os) where
  answers : Answers s u p q c o × Run s o.world (pending_after p c) (next q (operation_of p c)) cs os
  answers = ⊎_elim (λ (n : Refuses s u p q c o). absurd (n.some (n.why ∙ none))) (λ a. a) f.goes

-- ---- the table's first Insert: neither its begin nor its finish is refused
abbrev fresh : World
fresh = fresh_world table_sizes

abbrev pending : Option Request
pending = pending_after None first_insert

begin-none : refusal_of table_sizes fresh.card.root None empty_queue first_insert ≡ 0
unfolding every call_rows request_rows insert_rows waits first_given root_full is_dummy same pair_list path_bucket sibling_of path up_from
begin-none = refl

finish-none : (root : List Record) → refusal_of table_sizes root pending empty_queue ends ≡ 0
unfolding call_rows waits first_given pair_list path_bucket sibling_of path up_from
finish-none root = refl

-- what its finish makes of the queue
abbrev held : Queue
held = next empty_queue (operation_of pending ends)

-- ---- "refuses all calls"
pub refuses-all : Breaks RefusesAll lines
refuses-all [] v run = v
refuses-all (o ∷ os) v run = v.0 (answers begin-none (first run)).0.passes

-- ---- "gives one constant answer": a begin is answered by silence, an Insert by a reference
abbrev is_silent : Reply → Bool
is_silent (referred r) = false
is_silent (told e) = false
is_silent (was_found b) = false
is_silent silent = true

pub one_answer : (a : Answer) → Breaks (AnswersOne a) lines
one_answer a [] v run = v
one_answer a (o ∷ []) v run = v.1
one_answer a (o ∷ o' ∷ os) v run =
    let begins = answers begin-none (first run) in
    let ends' = answers (finish-none o.world.card.root) (first begins.1) in
    true≢false (ap is_silent (sym begins.0.same ∙ ap says (v.0 ∙ sym v.1.0) ∙ ends'.0.same))

-- ---- "does nothing": a request that was begun must wait
pub does-nothing : Breaks DoesNothing lines
unfolding waits
does-nothing [] v run = v
does-nothing (o ∷ []) v run = v.1
does-nothing (o ∷ o' ∷ os) v run =
    let begins = answers begin-none (first run) in
    let waiting = (first begins.1).stands.waiting in
    true≢false (sym (ap waits waiting) ∙ ap (λ (u : World). waits u.card.waiting) v.0)

-- ---- "finishes without working": the Insert's event must stand in a slot
past : (l : List Record) (i : ℕ) → length l ≤ i → get_or l i dummy ≡ dummy
past [] i m = refl
past (x ∷ xs) zero m = absurd (omega arith)
past (x ∷ xs) (suc i) m = past xs i (omega arith)

-- where no event is live all slots are dummies
all-dummies : (u : World) (p : Option Request) (q : Queue) → q.events ≡ [] → Stands table_sizes u p q → (b : Bucket) → InTree table_sizes.h b → (i : ℕ)
    → in_slot u b i ≡ dummy
all-dummies u p q none h b within i =
    let plain = stands-plainly table_sizes u p q h in
    let inside = subst (λ (s : Sizes). InTree s.h b) (sym h.sizes) within in
    elim (dec_lt i (length (buckets u b).slots)) [
      | yes l ↦
          ⊎_elim (λ (d : in_slot u b i ≡ dummy). d)
          (λ (m : Memᴰ (event_of (in_slot u b i)) q.events). absurd (Memᴰ.not-nil (subst (λ (es : List Event). Memᴰ (event_of (in_slot u b i)) es) none m)))
          (plain.nothing_else b i (record { within = inside; place = l }))
      | no n ↦ past (buckets u b).slots i (omega arith)
    ]

extract-none : (root : List Record) → refusal_of table_sizes root None held (begins extract) ≡ 0
unfolding call_rows request_rows extract_rows waits first_given least_event path_list path_bucket sibling_of path up_from
extract-none root = refl

removal-none : (root : List Record) → refusal_of table_sizes root (Some Extract) held ends ≡ 0
unfolding call_rows waits first_given least_event path_list path_bucket sibling_of path up_from
removal-none root = refl

-- the one event is gone from the queue
abbrev emptied : Queue
emptied = next held (operation_of (Some Extract) ends)

gone : emptied.events ≡ []
unfolding least_event taken_out
gone = refl

pub finishes-idly : Breaks FinishesIdly up_to_removal
finishes-idly [] v run = v
finishes-idly (o ∷ []) v run = v.1
finishes-idly (o ∷ o₂ ∷ []) v run = v.1.1
finishes-idly (o ∷ o₂ ∷ o₃ ∷ []) v run = v.1.1.1
finishes-idly (o ∷ o₂ ∷ o₃ ∷ o₄ ∷ os) v run =
    let begun = answers begin-none (first run) in
    let inserted = answers (finish-none o.world.card.root) (first begun.1) in
    let asked = answers (extract-none o₂.world.card.root) (first inserted.1) in
    let before = (first asked.1).stands in
    let removed = answers (removal-none o₃.world.card.root) (first asked.1) in
    let after = first removed.1 in
    let (b, i, slot, is, on) = (stands-plainly table_sizes o₃.world (Some Extract) held before).seated _ (Memᴰ.head refl) in
    let within = subst (λ (s : Sizes). InTree s.h b) before.sizes slot.within in
    let stays = v.1.1.1.0 (ap removes before.waiting) b i in
    let empty = sym stays ∙ all-dummies o₄.world None emptied gone after b within i in
    let key : dummy_key ≡ 7 = ap (λ (r : Record). r.key) (sym empty) ∙ ap (λ (e : Event). e.key) is in
    absurd (omega arith)

-- ---- and a version that keeps the contracts breaks nothing
abbrev Keeps : Version
Keeps u c o = o ≡ step u c

steps-come : (u : World) (cs : List Call) → Comes Keeps u cs (outcomes u cs)
unfolding outcomes
steps-come u [] = tt
steps-come u (c ∷ cs) = (refl, steps-come (step u c).world cs)

pub keeps-unbroken : Breaks Keeps lines → ⊥
unfolding in_range tree_in between
keeps-unbroken broken = broken (outcomes fresh lines) (steps-come fresh lines) (demand2-steps table_sizes refl lines)
