-- What is in the scratches once they are loaded. Assumes nothing.
use Prim.Native.Nat.{ℕ, ◌+◌, ◌*◌, ◌-◌}
use mathlib.Core.List.{List, [], ◌∷◌, ◌++◌}
use mathlib.Core.Path.{◌≡◌, ap, ◌∙◌}
use native.Mathlib.Omega.{arith}
use lib.ListN.{length, take}
use lib.Seq.{take-suc-set}
use Rattle.record.specs.declared.Record.{Record}
use Rattle.record.specs.Standing.{dummy}
use Rattle.record.specs.Words.{records, written}
use Rattle.record.proofs.WordsLaws.{length-written, records-written, records-count}
use Rattle.path.specs.declared.sizes.Sizes.{Sizes}
use Rattle.gather.specs.Laid.{laid_over, SiblingsLoaded}
use Rattle.gather.specs.Shown.{siblings_shown, slots_shown, way_shown}
use Rattle.gather.proofs.LaidLaws.{laid-last}
use Rattle.gather.proofs.ShownLaws.{siblings-length}
use Rattle.gather.proofs.LoadedLaws.{way-loaded}
use Rattle.shown.specs.WayRoom.{WayRoom}
use Rattle.shown.specs.PathShown.{PathShown, PathRoom}
use Rattle.shown.specs.PairShown.{SiblingRoom, SiblingsBelow, PairShown}

-- the root's slots, then those of n whole buckets, in a scratch just as long
pub way-shown :
    (s : Sizes) (n : ℕ) (root : List Record) (ws w₀ w₁ w₂ : List ℕ) → WayRoom s n ws w₀ → length root ≡ 64
    → w₁ ≡ laid_over w₀ 0 (take s.r root) → w₂ ≡ laid_over w₁ s.r (slots_shown s.z ws 0 n)
    → records w₂ ≡ way_shown n s.z s.r root ws 0
way-shown s n root ws w₀ w₁ w₂ room full one two =
    ap records two
    ∙ way-loaded n s.z s.r root ws 0 (omega (arith, room.sizes.roots)) (omega (arith, room.fetched)) w₀ room.slots w₁ one

pub path-shown :
    (s : Sizes) (root : List Record) (ws w₀ b₀ w₁ b₁ : List ℕ) → PathRoom s ws w₀ b₀ → records w₁ ≡ way_shown s.h s.z s.r root ws 0
    → (moved : ℕ) → SiblingsLoaded s.z ws s.h 0 1 (s.h + 1 - 1) b₀ b₁ moved → PathShown s root ws w₁ b₁ moved
path-shown s root ws w₀ b₀ w₁ b₁ room way moved loaded =
    let n : s.h + 1 - 1 ≡ s.h = omega arith in
    let k = siblings-length s.z ws s.h 0 s.h in
    record {
      way = way;
      siblings =
          ap records (rw n at loaded.laid)
          ∙ laid-last b₀ 0 (siblings_shown s.z ws s.h 0 s.h) (omega (arith, room.siblings)) (omega (arith, room.siblings));
      counted = rw n at loaded.counted;
    }

-- the dummy at level 1's place, then the siblings from level 2 on
pub siblings-shown :
    (s : Sizes) (skip : ℕ) (ws b₀ b₁ b₂ : List ℕ) → SiblingRoom s skip ws b₀ → b₁ ≡ written b₀ 0 dummy
    → (moved : ℕ) → SiblingsLoaded s.z ws (2 * s.h) skip 2 (s.h + 1 - 2) b₁ b₂ moved → SiblingsBelow s ws skip b₂ moved
siblings-shown s skip ws b₀ b₁ b₂ room one moved two =
    let n : s.h + 1 - 2 ≡ s.h - 1 = omega arith in
    let k = siblings-length s.z ws (2 * s.h) skip (s.h - 1) in
    let l : length b₁ ≡ length b₀ = ap length one ∙ length-written b₀ 0 dummy in
    let long : length b₁ ≡ 4 * (1 + length (siblings_shown s.z ws (2 * s.h) skip (s.h - 1))) =
    omega (arith, l, k, room.siblings, room.sizes.height.0) in
    let first : take 1 (records b₁) ≡ dummy ∷ [] =
    ap (λ (b : List ℕ). take 1 (records b)) one
    ∙ ap (take 1) (records-written b₀ 0 dummy (omega (arith, room.siblings, room.sizes.height.0)))
    ∙ take-suc-set (records b₀) 0 dummy (omega (arith, records-count b₀, room.siblings, room.sizes.height.0)) in
    record {
      siblings =
          ap records (rw n at two.laid)
          ∙ laid-last b₁ 1 (siblings_shown s.z ws (2 * s.h) skip (s.h - 1)) (omega arith) long
          ∙ ap (λ (f : List Record). f ++ siblings_shown s.z ws (2 * s.h) skip (s.h - 1)) first;
      counted = rw n at two.counted;
    }

pub pair-shown :
    (s : Sizes) (root : List Record) (ws w one two all : List ℕ) → records w ≡ way_shown s.h s.z s.r root ws 0
    → (m n : ℕ) → SiblingsBelow s ws 0 one m → SiblingsBelow s ws (s.h - 1) two n
    → records all ≡ way_shown (2 * s.h) s.z s.r root ws 0 → PairShown s root ws w one two all (m + n)
pair-shown s root ws w one two all way m n first second slots =
    record {
      way = way;
      first = first.siblings;
      second = second.siblings;
      slots = slots;
      counted = omega (arith, first.counted, second.counted);
    }
