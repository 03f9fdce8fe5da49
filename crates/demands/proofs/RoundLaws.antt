-- Whole requests of which none is refused are answered as the queue replies to them; so insertions and then as many
-- ExtractMins sort. Assumes nothing.
use Prim.Native.Nat.{ℕ, zero, suc, ◌≤◌}
use mathlib.Core.Bool.{true}
use mathlib.Core.List.Memᴰ
use mathlib.Core.List.{List, [], ◌∷◌, ◌++◌, map, append-nil, append_assoc, Memᴰ}
use mathlib.Core.Logic.{inl, inr, ⊎_elim}
use mathlib.Core.Option.{some}
use mathlib.Core.Path.{◌≡◌, refl, sym, ap, ◌∙◌, subst}
use mathlib.Mathlib.Data.Bool.Basic.{dichotomy}
use native.Mathlib.Omega.{arith}
use lib.ListN.{length, take, drop, replicate, length-map}
use lib.Seq.{take_all, drop_at}
use Rattle.std.specs.Prelude.{Option, None, Some}
use Rattle.path.specs.declared.sizes.Sizes.{Sizes}
use Rattle.path.specs.Sizes.{in_range}
use Rattle.answers.specs.Answers.{number_of}
use Rattle.demands.specs.Queue.{Reference, Event, Queue, Operation, Reply, empty_queue, no_dearer, told, extract_min, reply, next}
use Rattle.world.specs.World.{World, fresh_world, Call, begin, finish, Outcome, step}
use Rattle.demands.specs.Says.{asks, says}
use Rattle.demands.specs.Refusals.{refusal_of}
use Rattle.demands.specs.Demand2.{Refuses}
use Rattle.demands.specs.Sorted.{sorted, placed, extracts, Distinct, none as alone, more as apart}
use Rattle.demands.specs.Rounds.{Round, round, Passes, none, more, answers, wanted, replies, Input, insert_of, made, events_from}
use Rattle.demands.proofs.StepLaws.{Holds, Goes, Plays}
use Rattle.demands.proofs.Demand2.{plays, fresh_holds}
use Rattle.demands.proofs.SortedLaws.{extracts-sorted}
use Rattle.request.specs.declared.Request.{Request}

-- a call that is not refused
pub passed : {s : Sizes} {u : World} {p : Option Request} {q : Queue} {c : Call} {o : Outcome} → Plays s u p q c o → number_of o.answer ≡ 0
    → Goes s u p q c o
passed {s} {u} {p} {q} {c} {o} play e =
    ⊎_elim (λ (n : Refuses s u p q c o). absurd (n.some (sym (ap number_of n.given) ∙ e))) (λ (a : Goes s u p q c o). a) play.card

-- nor is one that queue and pending request do not refuse
pub allowed : {s : Sizes} {u : World} {p : Option Request} {q : Queue} {c : Call} {o : Outcome} → Plays s u p q c o
    → refusal_of s u.card.root p q c ≡ 0 → Goes s u p q c o
allowed {s} {u} {p} {q} {c} {o} play e =
    ⊎_elim (λ (n : Refuses s u p q c o). absurd (n.some (n.why ∙ e))) (λ (a : Goes s u p q c o). a) play.card

pub rounds-answered : {s : Sizes} {u : World} {js : List Round} → Passes u js → (q : Queue) → Holds s u None q
    → answers u js ≡ replies q (map wanted js)
unfolding answers replies step
rounds-answered none q h = refl
rounds-answered {s} {u} (more {j = round {r = w} asked lent words} {js = js} b f rest) q h =
    let begun = passed (plays s u None q h (begin asked lent)) b in
    let v = (step u (begin asked lent)).world in
    let done = passed (plays s v (Some w) q begun.holds (finish words)) f in
    let now : says (step v (finish words)).answer ≡ reply q (asks w) = done.answers.same in
    let later = rounds-answered rest (next q (asks w)) done.holds in
    λ i. now i ∷ later i

-- ---- insertions, then as many ExtractMins
abbrev nexts : Queue → List Operation → Queue
nexts q [] = q
nexts q (r ∷ rs) = nexts (next q r) rs

replies-append : (q : Queue) (rs ss : List Operation) → replies q (rs ++ ss) ≡ replies q rs ++ replies (nexts q rs) ss
unfolding replies
replies-append q [] ss = refl
replies-append q (r ∷ rs) ss = ap (λ (xs : List Reply). reply q r ∷ xs) (replies-append (next q r) rs ss)

replies-many : (q : Queue) (rs : List Operation) → length (replies q rs) ≡ length rs
unfolding replies
replies-many q [] = refl
replies-many q (r ∷ rs) = ap suc (replies-many (next q r) rs)

replies-extracts : (n : ℕ) (q : Queue) → replies q (replicate n extract_min) ≡ extracts n q
unfolding replies extracts
replies-extracts zero q = refl
replies-extracts (suc n) q = ap (λ (xs : List Reply). reply q extract_min ∷ xs) (replies-extracts n (next q extract_min))

events-put : (is : List Input) (es : List Event) (t : ℕ)
    → (nexts (record { events = es; taken = t }) (map insert_of is)).events ≡ es ++ events_from t is
unfolding events_from
events-put [] es t = sym (append-nil es)
events-put (i ∷ is) es t = events-put is _ (suc t) ∙ append_assoc es _ (events_from (suc t) is)

-- stamps rise, so no two references are one
from-stamp : {y : Event} (t : ℕ) (is : List Input) → Memᴰ y (events_from t is) → t ≤ y.ref.stamp
unfolding events_from
from-stamp t [] m = absurd (Memᴰ.not-nil m)
from-stamp t (i ∷ is) (Memᴰ.head e) = omega (arith, ap (λ (a : Event). a.ref.stamp) e)
from-stamp t (i ∷ is) (Memᴰ.tail m) = omega (arith, from-stamp (suc t) is m)

from-distinct : (t : ℕ) (is : List Input) → Distinct (events_from t is)
unfolding events_from
from-distinct t [] = alone
from-distinct t (i ∷ is) =
    apart {x = made t i} {xs = events_from (suc t) is} (λ y m e. omega (arith, from-stamp (suc t) is m, ap (λ (a : Reference). a.stamp) e)) (from-distinct (suc t) is)

from-many : (t : ℕ) (is : List Input) → length (events_from t is) ≡ length is
unfolding events_from
from-many t [] = refl
from-many t (i ∷ is) = ap suc (from-many (suc t) is)

placed-many : (x : Event) (es : List Event) → length (placed x es) ≡ suc (length es)
unfolding placed
placed-many x [] = refl
placed-many x (y ∷ ys) = elim (dichotomy (no_dearer x y)) [
  | inr t ↦ rw t
  | inl f ↦ rw f (ap suc (placed-many x ys))
]

sorted-many : (es : List Event) → length (sorted es) ≡ length es
unfolding sorted
sorted-many [] = refl
sorted-many (x ∷ es) = placed-many x (sorted es) ∙ ap suc (sorted-many es)

-- "insert each element sequentially .. and .. call ExtractMin() a total of m times": the answers are the events by key, then by
-- insertion, for every run of which no request is refused
pub sorts : (s : Sizes) → in_range s ≡ true → (js : List Round) (is : List Input)
    → map wanted js ≡ map insert_of is ++ replicate (length is) extract_min → Passes (fresh_world s) js
    → drop (length is) (answers (fresh_world s) js) ≡ map (λ e. told (some e)) (sorted (events_from 0 is))
sorts s ok js is e p =
    let n = length is in
    let q = nexts empty_queue (map insert_of is) in
    let live : q.events ≡ events_from 0 is = events-put is [] 0 in
    let puts = replies empty_queue (map insert_of is) in
    let all : answers (fresh_world s) js ≡ puts ++ extracts n q =
    rounds-answered p empty_queue (fresh_holds s ok) ∙ ap (replies empty_queue) e ∙ replies-append empty_queue (map insert_of is) (replicate n extract_min)
    ∙ ap (λ (xs : List Reply). puts ++ xs) (replies-extracts n q) in
    let long : length puts ≡ n = replies-many empty_queue (map insert_of is) ∙ length-map is insert_of in
    let many : n ≤ length q.events = omega (arith, ap length live, from-many 0 is) in
    let out : extracts n q ≡ map (λ e. told (some e)) (take n (sorted q.events)) =
    extracts-sorted n q.events q.taken (subst Distinct (sym live) (from-distinct 0 is)) many in
    let whole : take n (sorted q.events) ≡ sorted (events_from 0 is) =
    ap (λ (es : List Event). take n (sorted es)) live ∙ take_all n (sorted (events_from 0 is)) (omega (arith, sorted-many (events_from 0 is), from-many 0 is)) in
    rw all (drop_at puts (extracts n q) n long ∙ out ∙ ap (map (λ e. told (some e))) whole)
