-- Two sequences of the same kinds, request by request: the first is taken apart along the second, and what each takes out of its
-- plain queue is there. Assumes nothing.
use Prim.Native.Nat.{ℕ}
use mathlib.Core.Bool.{true, and-eq-true_iff as both}
use mathlib.Core.List.{List, [], ◌∷◌, map, head-eq_of_cons-eq, tail-eq_of_cons-eq}
use mathlib.Core.Path.{◌≡◌, sym, ap, subst}
use native.Mathlib.Omega.{arith}
use lib.ListN.{length}
use Rattle.record.specs.declared.Leaf.{Leaf}
use Rattle.record.specs.declared.Stamp.{Stamp}
use Rattle.path.specs.declared.sizes.Sizes.{Sizes}
use Rattle.request.specs.declared.Request.{Request}
use Rattle.request.specs.declared.Request.TheVariants.{Insert, Extract, Delete}
use Rattle.demands.specs.Queue.{Queue, next}
use Rattle.world.specs.World.{World, Asked, insert, extract, delete, Call, begin, finish, withdraw, find_min, step}
use Rattle.demands.specs.Says.{asks}
use Rattle.deals.specs.Trace.{number_given}
use Rattle.deals.specs.Sequences.{Kind, inserts, extracts, deletes, finishes, withdraws, looks, kind_asked, kind_of, well, clean, unlabelled, Fair, Valid, none, look, request}
use Rattle.deals.proofs.RoundLaws.{passes-well, Idle, begun_by, done_by, Round, round, look-idle}

-- ---- requests of one kind
pub data OneKind : Request → Request → Type 0 where
  both-insert : {key value key' value' : ℕ} {label label' first second : Leaf}
      → OneKind (Insert key value label first second) (Insert key' value' label' first second)
  both-extract : OneKind Extract Extract
  both-delete : {label label' : Leaf} {stamp stamp' : Stamp} → OneKind (Delete label stamp) (Delete label' stamp')

-- a begin of a request of one kind with this
data Begins : Request → Call → Type 0 where
  begins : {w x : Request} {asked : Asked w} {places : List ℕ} → OneKind w x → Begins x (begin asked places)

data Finishes : Call → Type 0 where
  finishing : {words : List ℕ} → Finishes (finish words)

data Looks : Call → Type 0 where
  looking : Looks find_min

-- what a call's kind says of it
abbrev Shape : Kind → Call → Type 0
Shape (inserts first second) c = (key value : ℕ) (label : Leaf) → Begins (Insert key value label first second) c
Shape extracts c = Begins Extract c
Shape deletes c = (label : Leaf) (stamp : Stamp) → Begins (Delete label stamp) c
Shape finishes c = Finishes c
Shape withdraws c = Unit {0}
Shape looks c = Looks c

shape : (c : Call) → Shape (kind_of c) c
shape (begin (insert word) places) = λ key value label. begins both-insert
shape (begin extract places) = begins both-extract
shape (begin delete places) = λ label stamp. begins both-delete
shape (finish words) = finishing
shape withdraw = tt
shape find_min = looking

shaped : (k : Kind) (c : Call) → k ≡ kind_of c → Shape k c
shaped k c e = subst (λ (x : Kind). Shape x c) (sym e) (shape c)

begins-one : {x : Request} (asked : Asked x) (c : Call) → kind_asked asked ≡ kind_of c → Begins x c
begins-one (insert {key} {value} {label} {first} {second} word) c e = shaped (inserts first second) c e key value label
begins-one extract c e = shaped extracts c e
begins-one (delete {label} {stamp}) c e = shaped deletes c e label stamp

-- ---- two sequences side by side: the world and the plain queue of the first, the plain queue of the second without labels
pub data Twin (s : Sizes) : World → Queue → Queue → List Call → List Call → Type 0 where
  ended : {u : World} {q p : Queue} → Idle s u q → Twin s u q p [] []
  looked : {u : World} {q p : Queue} {cs ds : List Call} → Idle s u q → number_given (step u find_min) ≡ 0
      → Twin s (step u find_min).world q p cs ds → Twin s u q p (find_min ∷ cs) (find_min ∷ ds)
  taken : {u : World} {q p : Queue} {w x : Request} {asked : Asked w} {asked' : Asked x} {places words places' words' : List ℕ}
      {cs ds : List Call} → OneKind w x → Round s u q asked places words → well (done_by u asked places words).answer ≡ true
      → Fair s p x places' words'
      → Twin s (done_by u asked places words).world (next q (asks w)) (next p (unlabelled (asks x))) cs ds
      → Twin s u q p (begin asked places ∷ finish words ∷ cs) (begin asked' places' ∷ finish words' ∷ ds)

none-some : {A : Type 0} {x : Kind} {xs : List Kind} → [] ≡ x ∷ xs → A
none-some {A} {x} {xs} e = absurd (omega (arith, ap length e))

module _ (u : World) (c : Call) (cs : List Call) (k : clean u (c ∷ cs) ≡ true) where
  clean-here : well (step u c).answer ≡ true
  unfolding clean
  clean-here = ((both (well (step u c).answer) (clean (step u c).world cs)).0 k).0

  clean-later : clean (step u c).world cs ≡ true
  unfolding clean
  clean-later = ((both (well (step u c).answer) (clean (step u c).world cs)).0 k).1

module _ (s : Sizes) where
  twin-look : {c : Call} {u : World} {q p : Queue} {cs ds : List Call} → Looks c → Idle s u q → clean u (c ∷ cs) ≡ true
      → ((v : World) → Idle s v q → clean v cs ≡ true → Twin s v q p cs ds) → Twin s u q p (c ∷ cs) (find_min ∷ ds)
  twin-look {u = u} {q = q} {cs = cs} looking i k later =
      let n = passes-well u find_min (clean-here u find_min cs k) in
      looked i n (later (step u find_min).world (look-idle u s q i n) (clean-later u find_min cs k))

  twin-take : {c d : Call} {x : Request} {u : World} {q p : Queue} {asked' : Asked x} {places' words' : List ℕ} {cs ds : List Call}
      → Begins x c → Finishes d → Fair s p x places' words' → Idle s u q → clean u (c ∷ d ∷ cs) ≡ true
      → ((v : World) (r : Queue) → Idle s v r → clean v cs ≡ true → Twin s v r (next p (unlabelled (asks x))) cs ds)
      → Twin s u q p (c ∷ d ∷ cs) (begin asked' places' ∷ finish words' ∷ ds)
  twin-take {u = u} {q = q} {cs = cs} (begins {w = w} {asked = asked} {places = places} same) (finishing {words = words}) fair i k later =
      let b = clean-here u (begin asked places) (finish words ∷ cs) k in
      let rest = clean-later u (begin asked places) (finish words ∷ cs) k in
      let f = clean-here (begun_by u asked places) (finish words) cs rest in
      let r = round s u q asked places words i (passes-well u (begin asked places) b) (passes-well (begun_by u asked places) (finish words) f) in
      taken same r f fair
      (later (done_by u asked places words).world (next q (asks w)) r.after (clean-later (begun_by u asked places) (finish words) cs rest))

  pub twin : {p : Queue} {ds : List Call} → Valid s p ds → (cs : List Call) (u : World) (q : Queue) → map kind_of ds ≡ map kind_of cs → Idle s u q
      → clean u cs ≡ true → Twin s u q p cs ds
  twin none [] u q e i k = ended i
  twin none (c ∷ cs) u q e i k = none-some e
  twin (look v) [] u q e i k = none-some (sym e)
  twin (look v) (c ∷ cs) u q e i k =
      twin-look (shaped looks c (head-eq_of_cons-eq e)) i k (λ v' i' k'. twin v cs v' q (tail-eq_of_cons-eq e) i' k')
  twin (request fair v) [] u q e i k = none-some (sym e)
  twin (request fair v) (c ∷ []) u q e i k = none-some (sym (tail-eq_of_cons-eq e))
  twin (request {asked = asked} fair v) (c ∷ d ∷ cs) u q e i k =
      let e' = tail-eq_of_cons-eq e in
      twin-take (begins-one asked c (head-eq_of_cons-eq e)) (shaped finishes d (head-eq_of_cons-eq e')) fair i k
      (λ v' r i' k'. twin v cs v' r (tail-eq_of_cons-eq e') i' k')
