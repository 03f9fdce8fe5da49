-- Demand 3, over the definitions that the contracts of `card` and `rack` cite: the lists give nothing away. Proved as `demand3` in
-- proofs/Demand3.antt. The rack is honest, as `HonestRack` of demand 2 has it: `step` fetches out of the tree that the last store
-- left, and its "store is done before the next begin". Assumes nothing.
use Rattle.std.specs.Prelude.{ℕ, ◌<◌, true, ◌≡◌, length, take}
use mathlib.Core.List.{List, map, Permᴰ}
use Rattle.path.specs.declared.sizes.Sizes.{Sizes}
use Rattle.path.specs.Sizes.{in_range, leaves_of}
use Rattle.demands.specs.Queue.{empty_queue}
use Rattle.world.specs.World.{fresh_world, Call}
use Rattle.deals.specs.Trace.{Seen, trace, until_overflow}
use Rattle.deals.specs.Sequences.{kind_of, labelled, labels, clean, Valid}
use Rattle.deals.specs.Dealing.{dealt}

-- Two sequences on fresh cards and trees of the same sizes. Of the first none is refused, withdrawn, left waiting or found
-- Absent. The second has the same kinds, one for one, and the same eviction leaves; it is valid, and its deletes name live events.
pub record Twins (s : Sizes) (first second : List Call) : Type 0 where
  pub sizes : in_range s ≡ true
  pub clear : clean (fresh_world s) first ≡ true
  pub kinds : map kind_of second ≡ map kind_of first
  pub valid : Valid s empty_queue second

-- Then the labels of the first can be dealt to the second's insertions, each used once, and its deletes carry the label dealt to
-- their event, so that both show the same lists, call by call, up to the second's first Overflow.
pub record Deals (s : Sizes) (first second : List Call) : Type 0 where
  pub once : Permᴰ (labels (dealt first second)) (labels first)
  pub same :
      take (until_overflow (fresh_world s) (dealt first second)) (trace (fresh_world s) (dealt first second))
      ≡ take (until_overflow (fresh_world s) (dealt first second)) (trace (fresh_world s) first)

abbrev pub Demand3 : Type 0
Demand3 = (s : Sizes) (first second : List Call) → Twins s first second → Deals s first second

-- ---- what an operator asks for
-- a trace that a sequence can show, with labels of some kind
pub record Shows (s : Sizes) (cs : List Call) (seen : List Seen) : Type 0 where
  pub label : ℕ → ℕ
  pub clear : clean (fresh_world s) (labelled label 0 cs) ≡ true
  pub shown : trace (fresh_world s) (labelled label 0 cs) ≡ seen

-- no labels below N lead to an Overflow
abbrev pub NeverOverflows : Sizes → List Call → Type 0
NeverOverflows s cs =
    (label : ℕ → ℕ) → ((stamp : ℕ) → label stamp < leaves_of s.h)
    → until_overflow (fresh_world s) (labelled label 0 cs) ≡ length cs

-- Two valid sequences of the same kinds and eviction leaves that never overflow can show the same traces.
abbrev pub SameTraces : Type 0
SameTraces =
    (s : Sizes) (cs ds : List Call) → in_range s ≡ true → map kind_of ds ≡ map kind_of cs → Valid s empty_queue cs → Valid s empty_queue ds
    → NeverOverflows s cs → NeverOverflows s ds → (seen : List Seen) → (Shows s cs seen → Shows s ds seen) × (Shows s ds seen → Shows s cs seen)
