-- The numbers that the counts cover: each names a bucket that stands in the tree, first the whole ones, then the others.
-- Assumes nothing.
use Prim.Native.Nat.{ℕ, zero, suc, ◌+◌, ◌<◌}
use mathlib.Core.List.Memᴰ
use mathlib.Core.List.{List, [], ◌∷◌, ◌++◌, map, map-append}
use mathlib.Core.Path.{◌≡◌, refl, ◌∙◌}
use native.Mathlib.Omega.{arith}
use lib.ListN.{length, get_or, take, drop, length-map, length-drop}
use lib.Seq.{take-add, length-take-le}
use Rattle.path.specs.Path.{bucket}
use Rattle.copies.specs.Copy.{listed, Stands, AllStand, Covered}

stands_at :
    (z n : ℕ) (list : List ℕ) (i : ℕ) → AllStand z n (map bucket list) → i < length list
    → Stands z n (bucket (get_or list i 0))
stands_at z n [] i all l = absurd (omega arith)
stands_at z n (b ∷ list) zero all l = all (bucket b) (Memᴰ.head refl)
stands_at z n (b ∷ list) (suc i) all l = stands_at z n list i (λ c m. all c (Memᴰ.tail m)) (omega arith)

-- a covered bucket stands in the tree
pub covered-at :
    {z n : ℕ} {list : List ℕ} {many : ℕ} → Covered z n list many → (i : ℕ) → i < length (take many list)
    → Stands z n (bucket (get_or (take many list) i 0))
covered-at {z} {n} {list} {many} c i l = stands_at z n (take many list) i c.stand l

module _ (whole least : ℕ) {z n : ℕ} {list : List ℕ} (c : Covered z n list (whole + least)) where
  both-stand : AllStand z n ((listed list whole least).whole ++ (listed list whole least).least)
  both-stand = rw (← map-append, ← take-add) c.stand

  pub whole-stand : AllStand z n (listed list whole least).whole
  whole-stand b m = both-stand b (Memᴰ.append_left _ m)

  pub least-stand : AllStand z n (listed list whole least).least
  least-stand b m = both-stand b (Memᴰ.append_right (listed list whole least).whole m)

  pub whole-count : length (listed list whole least).whole ≡ whole
  whole-count = length-map (take whole list) bucket ∙ length-take-le whole list (omega (arith, c.counted))

  pub least-count : length (listed list whole least).least ≡ least
  least-count =
      length-map (take least (drop whole list)) bucket
      ∙ length-take-le least (drop whole list) (rw length-drop (omega (arith, c.counted)))

  pub whole-covered : Covered z n list whole
  whole-covered = record { slots = c.slots; counted = omega (arith, c.counted); stand = whole-stand }
