-- Sequences of calls: their kinds, their labels, and what demand 3 asks of the first and of the second. Assumes nothing.
use Rattle.std.specs.Prelude.{ℕ, suc, ◌<◌, ◌≤◌, Bool, true, false, not, ◌&&◌, List, [], ◌∷◌, ◌++◌, map, ◌≡◌, length}
use Rattle.record.specs.declared.Leaf.{Leaf}
use Rattle.record.specs.Standing.{dummy_key}
use Rattle.path.specs.declared.sizes.Sizes.{Sizes}
use Rattle.parts.specs.declared.Parts.{Parts}
use Rattle.request.specs.declared.Request.{Request}
use Rattle.answers.specs.declared.Answer.{Answer}
use Rattle.answers.specs.declared.Answer.TheVariants.{Started, Listed, Least, Withdrawn, Inserted, Extracted, Deleted, Refused}
use Rattle.request.specs.Tables.{waits}
use Rattle.request.specs.Job.{job_of}
use Rattle.listing.specs.Listing.{places_asked, words_asked}
use Rattle.demands.specs.Queue.{Queue, Operation, nothing, extract_min, has, next, insert as put, delete as remove, find_min as find_least}
use Rattle.world.specs.World.{World, Asked, insert, extract, delete, Call, begin, finish, withdraw, find_min, step}
use Rattle.demands.specs.Says.{asks}

-- ---- kinds
-- what two calls of one kind share: of an Insert its eviction leaves, of all others nothing
pub data Kind : Type 0 where
  inserts : (first second : Leaf) → Kind
  extracts : Kind
  deletes : Kind
  finishes : Kind
  withdraws : Kind
  looks : Kind

abbrev pub kind_asked : {r : Request} → Asked r → Kind
kind_asked (insert {first = first} {second = second} word) = inserts first second
kind_asked extract = extracts
kind_asked delete = deletes

abbrev pub kind_of : Call → Kind
kind_of (begin asked places) = kind_asked asked
kind_of (finish words) = finishes
kind_of withdraw = withdraws
kind_of find_min = looks

-- ---- labels
-- the call with the label that f gives to its insertion, which is named by its stamp: the t of an Insert, the stamp of a Delete
abbrev pub leaf : ℕ → Leaf
leaf n = record { 0 = n }

module _ (f : ℕ → ℕ) where
  abbrev pub given_to : ℕ → Call → Call
  given_to t (begin (insert {key = key} {value = value} {first = first} {second = second} word) places) =
      begin (insert {key = key} {value = value} {label = leaf (f t)} {first = first} {second = second} word) places
  given_to t (begin extract places) = begin extract places
  given_to t (begin (delete {stamp = stamp}) places) = begin (delete {label = leaf (f stamp.0)} {stamp = stamp}) places
  given_to t (finish words) = finish words
  given_to t withdraw = withdraw
  given_to t find_min = find_min

-- the count of requests, each of which is finished before the next
abbrev pub counted : ℕ → Call → ℕ
counted t (begin asked places) = suc t
counted t (finish words) = t
counted t withdraw = t
counted t find_min = t

unfoldable pub labelled : (ℕ → ℕ) → ℕ → List Call → List Call
labelled f t [] = []
labelled f t (c ∷ cs) = given_to f t c ∷ labelled f (counted t c) cs

-- what is asked of the plain queue, and the labels of its insertions
abbrev pub wanted : Call → Operation
wanted (begin {r} asked places) = asks r
wanted (finish words) = nothing
wanted withdraw = nothing
wanted find_min = find_least

abbrev pub requests : List Call → List Operation
requests cs = map wanted cs

abbrev pub label_in : Operation → List ℕ
label_in (put key value label) = label ∷ []
label_in find_least = []
label_in extract_min = []
label_in (remove r) = []
label_in nothing = []

unfoldable pub labels : List Call → List ℕ
labels [] = []
labels (c ∷ cs) = label_in (wanted c) ++ labels cs

-- ---- the first sequence: none refused, withdrawn or Absent, and none left waiting
abbrev pub well : Answer → Bool
well Started = true
well (Listed n) = true
well (Least r words) = true
well Withdrawn = false
well (Inserted label stamp words) = true
well (Extracted r words) = true
well (Deleted found words) = found
well (Refused number) = false

unfoldable pub clean : World → List Call → Bool
clean u [] = not (waits u.card.waiting)
clean u (c ∷ cs) = well (step u c).answer && clean (step u c).world cs

-- ---- the second sequence
-- a request without its label; a Delete "names its event by insertion": by the stamp alone
abbrev pub unlabelled : Operation → Operation
unlabelled (put key value label) = put key value 0
unlabelled find_least = find_least
unlabelled extract_min = extract_min
unlabelled (remove r) = remove (record { label = 0; stamp = r.stamp })
unlabelled nothing = nothing

abbrev pub blanks : List Call → List Operation
blanks cs = map (λ c. unlabelled (wanted c)) cs

-- a proper key, and a live event
abbrev pub Sound : Queue → Operation → Type 0
Sound q (put key value label) = key < dummy_key
Sound q find_least = Unit {0}
Sound q extract_min = Unit {0}
Sound q (remove r) = has r q.events ≡ true
Sound q nothing = Unit {0}

-- a request with the list and the words that are lent for it, none of them too short, whatever the card's parts are
pub record Fair (s : Sizes) (q : Queue) (r : Request) (places words : List ℕ) : Type 0 where
  pub sound : Sound q (unlabelled (asks r))
  pub room : (p : Parts) → places_asked s.h (job_of p r) ≤ length places
  pub lent : (p : Parts) → words_asked s (job_of p r) ≤ length words

-- each request is finished before the next or the end, and FindMin may stand anywhere between them
pub data Valid (s : Sizes) : Queue → List Call → Type 0 where
  none : {q : Queue} → Valid s q []
  look : {q : Queue} {cs : List Call} → Valid s q cs → Valid s q (find_min ∷ cs)
  request : {q : Queue} {r : Request} {asked : Asked r} {places words : List ℕ} {cs : List Call} → Fair s q r places words
      → Valid s (next q (unlabelled (asks r))) cs → Valid s q (begin asked places ∷ finish words ∷ cs)
