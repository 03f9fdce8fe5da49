-- How large a tree of sizes in range is, and where its buckets lie. Assumes nothing.
use Prim.Native.Nat.{ℕ, ◌+◌, ◌*◌, ◌-◌, ◌/◌, ◌%◌, ◌≤◌, ◌<◌}
use mathlib.Core.Bool.{true}
use mathlib.Core.List.Memᴰ
use mathlib.Core.List.{List, [], ◌∷◌, flat_map}
use mathlib.Core.Path.{◌≡◌, refl, ◌∙◌}
use native.Mathlib.Omega.{arith}
use native.Mathlib.Nat.{mul-le-mul, mul-le-mul_left, suc-mul}
use lib.ListN.{length, length-append, length-drop}
use lib.Pow.{pow_mono, pow_pos}
use lib.Seq.{length-take-le}
use Rattle.record.specs.declared.Bucket.{Bucket}
use Rattle.path.specs.Path.{bucket}
use Rattle.path.specs.Sizes.{leaves_of, tree_in}
use Rattle.path.specs.Layout.{bucket_words, tree_words}
use Rattle.path.proofs.SizesLaws.{tree-in}
use Rattle.copies.specs.Copy.{part_of, Stands, AllStand}

-- ---- the tree
-- N, at most 2^16
pub leaves-few : (h : ℕ) → h ≤ 16 → (1 ≤ leaves_of h) × (leaves_of h ≤ 65536)
leaves-few h l = (pow_pos h, pow_mono {j = 16} l)

-- 24 words a bucket, 2^17 - 2 buckets
pub tree-small : (h z : ℕ) → tree_in h z ≡ true → tree_words h z ≤ 24 * 131070
tree-small h z ok =
    let t = tree-in h z ok in
    let l = leaves-few h t.height.1 in
    mul-le-mul {n₂ = 24} {m₂ = 131070} (omega arith) (omega arith)

-- a tree in records
pub tree-records : (h z n : ℕ) → n ≡ tree_words h z → (n % 4 ≡ 0) × (n / 4 ≡ (z + 1) * (2 * leaves_of h - 2))
tree-records h z n e = (omega arith, omega arith)

-- ---- a bucket
-- a number from 2 to 2N-1 names one that stands in the tree
pub in_tree : (h z n : ℕ) → 2 ≤ n → n < 2 * leaves_of h → Stands z (tree_words h z) (bucket n)
in_tree h z n l m =
    let next : n - 2 + 1 ≤ 2 * leaves_of h - 2 = omega arith in
    record { below = l; within = omega (arith, mul-le-mul_left (bucket_words z) next) }

module _ (z part : ℕ) (tree : List ℕ) (fits : part ≤ bucket_words z) where
  pub part_length : (b : Bucket) → Stands z (length tree) b → length (part_of z part tree b) ≡ part
  part_length b s = length-take-le part _ (rw length-drop (omega (arith, s.within)))

  pub parts-length :
      (bs : List Bucket) → AllStand z (length tree) bs → length (flat_map (part_of z part tree) bs) ≡ length bs * part
  unfolding flat_map
  parts-length [] all = omega arith
  parts-length (b ∷ bs) all =
      length-append (part_of z part tree b) _
      ∙ rw (part_length b (all b (Memᴰ.head refl)), parts-length bs (λ c m. all c (Memᴰ.tail m)), suc-mul) (omega arith)
