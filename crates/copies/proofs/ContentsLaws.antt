-- The rack on the heap's level: a store leaves each listed bucket with the contents of its words and every other as it was,
-- and a fresh tree's buckets are all dummies. Assumes nothing.
use Prim.Native.Nat.{ℕ, ◌+◌, ◌*◌, ◌-◌, ◌≤◌, ◌<◌}
use mathlib.Core.List.{List, Memᴰ}
use mathlib.Core.Path.{◌≡◌, ap, ◌∙◌}
use native.Mathlib.Numerals.{add-one}
use native.Mathlib.Omega.{arith}
use lib.ListN.{length, get_or, take, drop, replicate, length-replicate}
use Rattle.record.specs.declared.Bucket.{Bucket}
use Rattle.record.specs.Standing.{dummy}
use Rattle.record.specs.Words.{records}
use Rattle.record.proofs.WordsLaws.{words-length, records-words, records-take, records-drop}
use Rattle.path.specs.Path.{bucket, number}
use Rattle.path.specs.Sizes.{leaves_of}
use Rattle.path.specs.Layout.{bucket_words, bucket_start, tree_words, fresh_tree, Contents}
use Rattle.copies.specs.Copy.{stored, Stands, AllStand}
use Rattle.copies.specs.BucketAt.{contents_of, bucket_at}
use Rattle.record.proofs.PartLaws.{part-replicate}
use Rattle.copies.proofs.StoreLaws.{Distinct, stored_other, stored-each}

-- ---- store
-- the contents that some words hold for the i-th bucket of a list
abbrev pub contents_at : ℕ → List ℕ → ℕ → Contents
contents_at z words i = contents_of (records (take (bucket_words z) (drop (i * bucket_words z) words)))

module _ (z : ℕ) (words tree : List ℕ) where
  -- what a bucket holds goes by its words
  same-part : (a b : List ℕ) → a ≡ b → contents_of (records a) ≡ contents_of (records b)
  same-part a b e = ap (λ (w : List ℕ). contents_of (records w)) e

  pub kept :
      (bs : List Bucket) (a : Bucket) → AllStand z (length tree) bs → length bs * bucket_words z ≤ length words
      → Stands z (length tree) a → (Memᴰ a bs → ⊥) → bucket_at z (stored z bs words tree) a ≡ bucket_at z tree a
  kept bs a all n t other = same-part _ _ (stored_other z bs words tree a all n t other)

  pub each_stands :
      {bs : List Bucket} → Distinct bs → AllStand z (length tree) bs → length bs * bucket_words z ≤ length words
      → (i : ℕ) → i < length bs → bucket_at z (stored z bs words tree) (get_or bs i (bucket 0)) ≡ contents_at z words i
  each_stands d all n i l = same-part _ _ (stored-each z d words tree all n i l)

-- ---- a fresh tree
module _ (h z : ℕ) where
  pub fresh-length : length (fresh_tree h z) ≡ tree_words h z
  fresh-length =
      words-length (replicate ((z + 1) * (2 * leaves_of h - 2)) dummy) ∙ rw length-replicate (omega arith)

  -- "A fresh tree is all dummies."
  pub fresh-bucket :
      (b : Bucket) → Stands z (tree_words h z) b
      → bucket_at z (fresh_tree h z) b ≡ record { least = dummy; slots = replicate z dummy }
  fresh-bucket b s =
      let places = (z + 1) * (2 * leaves_of h - 2) in
      let at : bucket_start z b ≡ 4 * ((z + 1) * (number b - 2)) = omega arith in
      rw (
        records-take (drop (bucket_start z b) (fresh_tree h z)) (z + 1),
        at,
        records-drop (fresh_tree h z) ((z + 1) * (number b - 2)),
        records-words,
        part-replicate ((z + 1) * (number b - 2)) (z + 1) places dummy (omega (arith, s.within)),
        add-one,
      )
