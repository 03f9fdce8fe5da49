-- The input of document 01's "Input, then whole output" as calls, and the wrong versions that it names: "A version that refuses all calls,
-- gives one constant answer, or does nothing breaks demand 2 with the table above. One that begins well but finishes without working
-- breaks demand 2 at the first removal." Each is proved to break it in proofs/WrongLaws.antt. Assumes nothing.
use Rattle.std.specs.Prelude.{ℕ, ◌≤◌, Bool, true, false, List, [], ◌∷◌, ◌≡◌, replicate, Option, None, Some}
use Rattle.std.proofs.Common.{arith}
use Rattle.record.specs.declared.Bucket.{Bucket}
use Rattle.record.specs.declared.Leaf.{Leaf}
use Rattle.record.specs.Standing.{dummy_key}
use Rattle.path.specs.declared.sizes.Sizes.{Sizes}
use Rattle.path.specs.Sizes.{sizes_of}
use Rattle.request.specs.declared.Request.{Request}
use Rattle.request.specs.declared.Request.TheVariants.{Insert, Extract, Delete}
use Rattle.answers.specs.declared.Answer.{Answer}
use Rattle.answers.specs.Answers.{number_of}
use Rattle.world.specs.World.{World, fresh_world, Asked, insert, extract, delete, Call, begin, finish, withdraw, find_min, Outcome}
use Rattle.demands.specs.Queue.{empty_queue}
use Rattle.demands.specs.Demand2.{Run}
use Rattle.demands.specs.Plainly.{in_slot}

-- ---- the paper's lines as calls, with lists and words that are long enough; the third Insert and the last ExtractMin are refused, so that
-- there is nothing to finish
abbrev pub leaf : ℕ → Leaf
leaf n = record { 0 = n }

abbrev pub begins : {r : Request} → Asked r → Call
begins a = begin a (replicate 6 0)

abbrev pub ends : Call
ends = finish (replicate 41 0)

abbrev pub inserts : (key value label first second : ℕ) → key ≤ dummy_key → Call
inserts key value label first second word = begins (insert {value = value} {label = leaf label} {first = leaf first} {second = leaf second} word)

abbrev pub first_insert : Call
first_insert = inserts 7 70 0 1 2 (omega arith)

abbrev pub lines : List Call
lines =
    first_insert ∷ ends
    ∷ inserts 5 50 0 1 2 (omega arith) ∷ ends
    ∷ inserts 6 60 3 1 2 (omega arith)
    ∷ find_min
    ∷ begins extract ∷ ends
    ∷ begins (delete {label = leaf 0} {stamp = record { 0 = 0 }}) ∷ ends
    ∷ begins (delete {label = leaf 0} {stamp = record { 0 = 0 }}) ∷ ends
    ∷ begins extract
    ∷ []

abbrev pub table_sizes : Sizes
table_sizes = sizes_of 2 1 1 16

-- ---- versions, by what comes of a call on a world
abbrev pub Version : Type 1
Version = World → Call → Outcome → Type 0

abbrev pub RefusesAll : Version
RefusesAll u c o = number_of o.answer ≡ 0 → ⊥

abbrev pub AnswersOne : Answer → Version
AnswersOne a u c o = o.answer ≡ a

abbrev pub DoesNothing : Version
DoesNothing u c o = o.world ≡ u

-- no slot of root or tree is other than it was
abbrev pub SlotsStay : World → World → Type 0
SlotsStay u after = (b : Bucket) (i : ℕ) → in_slot after b i ≡ in_slot u b i

-- whether a removal waits
abbrev pub removes : Option Request → Bool
removes None = false
removes (Some (Insert key value label first second)) = false
removes (Some Extract) = true
removes (Some (Delete label stamp)) = true

-- whatever its Inserts do, the finish of a removal moves nothing
abbrev pub FinishesIdly : Version
FinishesIdly u (begin asked places) o = Unit {0}
FinishesIdly u (finish words) o = removes u.card.waiting ≡ true → SlotsStay u o.world
FinishesIdly u withdraw o = Unit {0}
FinishesIdly u find_min o = Unit {0}

-- outcomes that come of these calls in such a version, each on the world that the one before it left
abbrev pub Comes : Version → World → List Call → List Outcome → Type 0
Comes v u [] [] = Unit {0}
Comes v u [] (o ∷ os) = ⊥
Comes v u (c ∷ cs) [] = ⊥
Comes v u (c ∷ cs) (o ∷ os) = v u c o × Comes v o.world cs os

-- no outcomes of these calls in such a version are a run of demand 2
abbrev pub Breaks : Version → List Call → Type 0
Breaks v cs =
    (os : List Outcome) → Comes v (fresh_world table_sizes) cs os → Run table_sizes (fresh_world table_sizes) None empty_queue cs os → ⊥

-- the first Insert and the first removal
abbrev pub up_to_removal : List Call
up_to_removal = first_insert ∷ ends ∷ begins extract ∷ ends ∷ []
