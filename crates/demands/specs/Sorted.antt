-- Events sorted by the queue's order, then by insertion. Assumes nothing.
use Rattle.std.specs.Prelude.{ℕ, zero, suc, true, cond, ◌≡◌}
use mathlib.Core.List.{List, [], ◌∷◌, Memᴰ}
use Rattle.demands.specs.Queue.{Event, Queue, Reply, no_dearer, extract_min, reply, next}

-- an earlier event goes before all that are no cheaper
unfoldable pub placed : Event → List Event → List Event
placed x [] = x ∷ []
placed x (y ∷ ys) = cond (no_dearer x y) (x ∷ y ∷ ys) (y ∷ placed x ys)

unfoldable pub sorted : List Event → List Event
sorted [] = []
sorted (x ∷ xs) = placed x (sorted xs)

-- the replies to so many ExtractMins
unfoldable pub extracts : ℕ → Queue → List Reply
extracts zero q = []
extracts (suc n) q = reply q extract_min ∷ extracts n (next q extract_min)

-- no two events have one reference
pub data Distinct : List Event → Type 0 where
  none : Distinct []
  more : {x : Event} {xs : List Event} → ((y : Event) → Memᴰ y xs → x.ref ≡ y.ref → ⊥) → Distinct xs → Distinct (x ∷ xs)

-- no event is dearer than one behind it
pub data Rising : List Event → Type 0 where
  flat : Rising []
  rise : {x : Event} {xs : List Event} → ((y : Event) → Memᴰ y xs → no_dearer x y ≡ true) → Rising xs → Rising (x ∷ xs)
