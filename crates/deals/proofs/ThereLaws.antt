-- What each of two sequences side by side takes out of its plain queue is there, and both queues stay of one length.
-- Assumes nothing.
use Prim.Native.Nat.{ℕ, suc, ◌-◌, ◌<◌, ◌≤◌}
use mathlib.Core.Bool.{true}
use mathlib.Core.List.{List, [], ◌∷◌, map, Memᴰ}
use mathlib.Core.Path.{◌≡◌, refl, sym, ap, ◌∙◌, subst}
use native.Mathlib.Omega.{arith}
use lib.ListN.{length, length-append}
use Rattle.path.specs.declared.sizes.Sizes.{Sizes}
use Rattle.path.specs.Sizes.{leaves_of}
use Rattle.request.specs.declared.Request.{Request}
use Rattle.request.specs.declared.Request.TheVariants.{Extract}
use Rattle.card.proofs.BeginLaws.{insertable, extractable}
use Rattle.demands.specs.Queue.{Event, Queue, Operation, insert, find_min, extract_min, delete, nothing, next}
use Rattle.world.specs.World.{World, Asked, Call, begin, finish, withdraw, find_min as looks_at}
use Rattle.world.specs.World.{insert as puts, extract as extracts, delete as deletes}
use Rattle.demands.specs.Says.{event_of, asks}
use Rattle.demands.proofs.SortedLaws.{has-live}
use Rattle.deals.specs.Sequences.{requests, blanks, unlabelled, labels, labelled, well, Fair}
use Rattle.deals.proofs.LeavingLaws.{All, There, Feasible, made, stamps, least-some, least-in, out-length}
use Rattle.deals.proofs.RoundLaws.{idle-least, done_by, Round}
use Rattle.deals.proofs.RequestLaws.{well-found}
use Rattle.deals.proofs.TwinLaws.{OneKind, both-insert, both-extract, both-delete, Twin, ended, looked, taken}

-- ---- how many are live after a request
abbrev grown : Operation → ℕ → ℕ
grown (insert key value label) n = suc n
grown find_min n = n
grown extract_min n = n - 1
grown (delete r) n = n - 1
grown nothing n = n

next-length : (q : Queue) (r : Operation) → There q r → length (next q r).events ≡ grown r (length q.events)
next-length q (insert key value label) h = simp length-append (omega arith)
next-length q find_min h = refl
next-length q extract_min h =
    let (m, least) = h in
    let out = out-length m.ref q.events (has-live (least-in q.events m least)) in
    rw least (omega arith)
next-length q (delete r) h = omega (arith, out-length r q.events h)
next-length q nothing h = refl

some-live : {x : Event} {es : List Event} → Memᴰ x es → 0 < length es
some-live (Memᴰ.head e) = omega arith
some-live (Memᴰ.tail m) = omega arith

-- ---- the first
pub extract-live : {s : Sizes} {u : World} {q : Queue} {asked : Asked Extract} {places words : List ℕ} → Round s u q asked places words → 1 ≤ u.card.c
extract-live {u = u} r = omega (arith, (extractable u.card r.request).some)

pub there-first : {s : Sizes} {u : World} {q : Queue} {w x : Request} {asked : Asked w} {places words : List ℕ} → OneKind w x
    → (r : Round s u q asked places words) → well (done_by u asked places words).answer ≡ true → There q (asks w)
there-first both-insert r f = tt
there-first {s} {u} {q} both-extract r f = (event_of u.card.least, idle-least s u q r.before (extract-live r))
there-first {u = u} {asked = asked} {places = places} {words = words} both-delete r f = well-found (done_by u asked places words).answer _ f r.said

pub twin-first : {s : Sizes} {u : World} {q p : Queue} {cs ds : List Call} → Twin s u q p cs ds → Feasible q (requests cs)
twin-first (ended i) = tt
twin-first (looked i n t) = (tt, twin-first t)
twin-first (taken same r f fair t) = (there-first same r f, (tt, twin-first t))

-- ---- the second
pub there-second : {s : Sizes} {w x : Request} {places words : List ℕ} → OneKind w x → (q p : Queue) → There q (asks w)
    → length q.events ≡ length p.events → Fair s p x places words → There p (unlabelled (asks x))
there-second both-insert q p h n fair = tt
there-second both-extract q p h n fair =
    let (m, least) = h in
    least-some p.events (omega (arith, some-live (least-in q.events m least), n))
there-second both-delete q p h n fair = fair.sound

same-grown : {w x : Request} → OneKind w x → (n : ℕ) → grown (asks w) n ≡ grown (unlabelled (asks x)) n
same-grown both-insert n = refl
same-grown both-extract n = refl
same-grown both-delete n = refl

-- both stay of one length
pub length-after : {w x : Request} → OneKind w x → (q p : Queue) → There q (asks w) → There p (unlabelled (asks x))
    → length q.events ≡ length p.events → length (next q (asks w)).events ≡ length (next p (unlabelled (asks x))).events
length-after {w} {x} same q p h k n =
    next-length q (asks w) h ∙ ap (grown (asks w)) n ∙ same-grown same (length p.events) ∙ sym (next-length p (unlabelled (asks x)) k)

pub twin-second : {s : Sizes} {u : World} {q p : Queue} {cs ds : List Call} → Twin s u q p cs ds → length q.events ≡ length p.events
    → Feasible p (blanks ds)
twin-second (ended i) n = tt
twin-second (looked i m t) n = (tt, twin-second t n)
twin-second {q = q} {p = p} (taken same r f fair t) n =
    let h = there-first same r f in
    let k = there-second same q p h n fair in
    (k, (tt, twin-second t (length-after same q p h k n)))

-- ---- insertions and their labels
pub twin-stamps : {s : Sizes} {u : World} {q p : Queue} {cs ds : List Call} → Twin s u q p cs ds → (t : ℕ)
    → stamps (made t (requests cs)) ≡ stamps (made t (blanks ds))
twin-stamps (ended i) t = refl
twin-stamps (looked i m tw) t = twin-stamps tw t
twin-stamps (taken both-insert r f fair tw) t = ap (λ (ns : List ℕ). t ∷ ns) (twin-stamps tw (suc t))
twin-stamps (taken both-extract r f fair tw) t = twin-stamps tw (suc t)
twin-stamps (taken both-delete r f fair tw) t = twin-stamps tw (suc t)

pub twin-labels : {s : Sizes} {u : World} {q p : Queue} {cs ds : List Call} → Twin s u q p cs ds → (t : ℕ)
    → labels cs ≡ map (λ r. r.label) (made t (requests cs))
unfolding labels
twin-labels (ended i) t = refl
twin-labels (looked i m tw) t = twin-labels tw t
twin-labels (taken (both-insert {label = label}) r f fair tw) t = ap (λ (ns : List ℕ). label.0 ∷ ns) (twin-labels tw (suc t))
twin-labels (taken both-extract r f fair tw) t = twin-labels tw (suc t)
twin-labels (taken both-delete r f fair tw) t = twin-labels tw (suc t)

-- the labels that f gives
pub labels-given : (f : ℕ → ℕ) (t : ℕ) (ds : List Call) → labels (labelled f t ds) ≡ map f (stamps (made t (blanks ds)))
unfolding labels labelled
labels-given f t [] = refl
labels-given f t (begin (puts word) places ∷ ds) = ap (λ (ns : List ℕ). f t ∷ ns) (labels-given f (suc t) ds)
labels-given f t (begin extracts places ∷ ds) = labels-given f (suc t) ds
labels-given f t (begin deletes places ∷ ds) = labels-given f (suc t) ds
labels-given f t (finish words ∷ ds) = labels-given f t ds
labels-given f t (withdraw ∷ ds) = labels-given f t ds
labels-given f t (looks_at ∷ ds) = labels-given f t ds

pub length-given : (f : ℕ → ℕ) (t : ℕ) (ds : List Call) → length (labelled f t ds) ≡ length ds
unfolding labelled
length-given f t [] = refl
length-given f t (d ∷ ds) = ap suc (length-given f _ ds)

-- the first's labels are below N
pub twin-below : {s : Sizes} {u : World} {q p : Queue} {cs ds : List Call} → Twin s u q p cs ds → All (λ l. l < leaves_of s.h) (labels cs)
unfolding labels
twin-below (ended i) = tt
twin-below (looked i m tw) = twin-below tw
twin-below {u = u} (taken (both-insert {key} {value} {label = label} {first = first} {second = second}) r f fair tw) = (
  subst (λ (s : Sizes). label.0 < leaves_of s.h) r.before.stands.sizes (insertable u.card key value label first second r.request).label,
  twin-below tw,
)
twin-below (taken both-extract r f fair tw) = twin-below tw
twin-below (taken both-delete r f fair tw) = twin-below tw
