-- A store keeps the tree's length, leaves each listed bucket as its last words say, and every other as it was.
-- Assumes nothing.
use Prim.Native.Nat.{ℕ, zero, suc, ◌+◌, ◌*◌, ◌-◌, ◌≤◌, ◌<◌}
use mathlib.Core.List.{List, [], ◌∷◌, ◌++◌, Memᴰ}
use mathlib.Core.Logic.{⊎_elim, ◌⊎◌, inl, inr}
use mathlib.Core.Path.{◌≡◌, refl, ap, ◌∙◌}
use native.Mathlib.Decide.{dec_le}
use native.Mathlib.Nat.{mul-le-mul_left, suc-mul, zero-mul}
use native.Mathlib.Omega.{arith}
use lib.ListN.{length, get_or, take, drop, length-drop}
use lib.Seq.{drop-drop, paste, length-paste}
use Rattle.record.specs.declared.Bucket.{Bucket}
use Rattle.path.specs.Path.{bucket, number}
use Rattle.path.specs.Layout.{bucket_words, bucket_start}
use Rattle.copies.specs.Copy.{bucket_part, stored, Stands, AllStand}
use Rattle.record.proofs.PartLaws.{part-pasted, part-earlier, part-later}

-- no bucket named twice
pub data Distinct : List Bucket → Type 0 where
  none : Distinct []
  more : {b : Bucket} {bs : List Bucket} → (Memᴰ b bs → ⊥) → Distinct bs → Distinct (b ∷ bs)

module _ (z : ℕ) where
  -- two buckets do not meet
  apart :
      (a b : Bucket) → 2 ≤ number a → 2 ≤ number b → (number a ≡ number b → ⊥)
      → (bucket_start z a + bucket_words z ≤ bucket_start z b) ⊎ (bucket_start z b + bucket_words z ≤ bucket_start z a)
  apart a b la lb other = elim (dec_le (number a - 2 + 1) (number b - 2)) [
    | yes l ↦ inl (omega (arith, mul-le-mul_left (bucket_words z) l))
    | no g ↦
        let m : number b - 2 + 1 ≤ number a - 2 = omega arith in
        inr (omega (arith, mul-le-mul_left (bucket_words z) m))
  ]

  module _ (b : Bucket) (words tree : List ℕ) (s : Stands z (length tree) b) (enough : bucket_words z ≤ length words) where
    paste-length : length (paste tree (bucket_start z b) words (bucket_words z)) ≡ length tree
    paste-length = length-paste tree (bucket_start z b) words (bucket_words z) s.within enough

    paste-other :
        (a : Bucket) → Stands z (length tree) a → (number a ≡ number b → ⊥)
        → bucket_part z (paste tree (bucket_start z b) words (bucket_words z)) a ≡ bucket_part z tree a
    paste-other a t other =
        ⊎_elim
        (part-earlier tree words (bucket_start z b) (bucket_words z) s.within enough (bucket_start z a) (bucket_words z))
        (part-later tree words (bucket_start z b) (bucket_words z) s.within enough (bucket_start z a) (bucket_words z))
        (apart a b t.below s.below other)

  -- the words for the rest of the list
  rest-enough : (k : ℕ) (words : List ℕ) → suc k * bucket_words z ≤ length words → k * bucket_words z ≤ length (drop (bucket_words z) words)
  rest-enough k words n = rw length-drop (omega (arith, suc-mul k (bucket_words z)))

  first-enough : (k : ℕ) (words : List ℕ) → suc k * bucket_words z ≤ length words → bucket_words z ≤ length words
  first-enough k words n = omega (arith, suc-mul k (bucket_words z))

  pub stored-length :
      (bs : List Bucket) (words tree : List ℕ) → AllStand z (length tree) bs → length bs * bucket_words z ≤ length words
      → length (stored z bs words tree) ≡ length tree
  unfolding stored
  stored-length [] words tree all n = refl
  stored-length (b ∷ bs) words tree all n =
      let long = paste-length b words tree (all b (Memᴰ.head refl)) (first-enough (length bs) words n) in
      stored-length bs (drop (bucket_words z) words) (paste tree (bucket_start z b) words (bucket_words z))
      (rw long (λ c m. all c (Memᴰ.tail m))) (rest-enough (length bs) words n)
      ∙ long

  -- every other bucket is as it was
  pub stored_other :
      (bs : List Bucket) (words tree : List ℕ) (a : Bucket) → AllStand z (length tree) bs
      → length bs * bucket_words z ≤ length words → Stands z (length tree) a → (Memᴰ a bs → ⊥)
      → bucket_part z (stored z bs words tree) a ≡ bucket_part z tree a
  unfolding stored
  stored_other [] words tree a all n t other = refl
  stored_other (b ∷ bs) words tree a all n t other =
      let s = all b (Memᴰ.head refl) in
      let enough = first-enough (length bs) words n in
      let long = paste-length b words tree s enough in
      stored_other bs (drop (bucket_words z) words) (paste tree (bucket_start z b) words (bucket_words z)) a
      (rw long (λ c m. all c (Memᴰ.tail m))) (rest-enough (length bs) words n) (rw long t) (λ m. other (Memᴰ.tail m))
      ∙ paste-other b words tree s enough a t (λ e. other (Memᴰ.head (ap bucket e)))

  -- "of one number named twice the later store stands": the last of a number's stores leaves its words
  pub stored_last :
      (before after : List Bucket) (b : Bucket) (words tree : List ℕ) → AllStand z (length tree) (before ++ b ∷ after)
      → length (before ++ b ∷ after) * bucket_words z ≤ length words → (Memᴰ b after → ⊥)
      → bucket_part z (stored z (before ++ b ∷ after) words tree) b
      ≡ take (bucket_words z) (drop (length before * bucket_words z) words)
  unfolding stored
  stored_last [] after b words tree all n other =
      let s = all b (Memᴰ.head refl) in
      let enough = first-enough (length after) words n in
      let long = paste-length b words tree s enough in
      stored_other after (drop (bucket_words z) words) (paste tree (bucket_start z b) words (bucket_words z)) b
      (rw long (λ c m. all c (Memᴰ.tail m))) (rest-enough (length after) words n) (rw long s) other
      ∙ part-pasted tree words (bucket_start z b) (bucket_words z) s.within enough
      ∙ rw zero-mul
  stored_last (a ∷ before) after b words tree all n other =
      let s = all a (Memᴰ.head refl) in
      let enough = first-enough (length (before ++ b ∷ after)) words n in
      let long = paste-length a words tree s enough in
      let next : suc (length before) * bucket_words z ≡ bucket_words z + length before * bucket_words z = omega (arith, suc-mul (length before) (bucket_words z)) in
      stored_last before after b (drop (bucket_words z) words) (paste tree (bucket_start z a) words (bucket_words z))
      (rw long (λ c m. all c (Memᴰ.tail m))) (rest-enough (length (before ++ b ∷ after)) words n) other
      ∙ rw (drop-drop, ← next)

  -- without a repetition every store stands
  pub stored-each :
      {bs : List Bucket} → Distinct bs → (words tree : List ℕ) → AllStand z (length tree) bs
      → length bs * bucket_words z ≤ length words → (i : ℕ) → i < length bs
      → bucket_part z (stored z bs words tree) (get_or bs i (bucket 0)) ≡ take (bucket_words z) (drop (i * bucket_words z) words)
  unfolding stored
  stored-each none words tree all n i l = absurd (omega arith)
  stored-each (more {b} {bs} other d) words tree all n zero l = stored_last [] bs b words tree all n other
  stored-each (more {b} {bs} other d) words tree all n (suc i) l =
      let long = paste-length b words tree (all b (Memᴰ.head refl)) (first-enough (length bs) words n) in
      let next : suc i * bucket_words z ≡ bucket_words z + i * bucket_words z = omega (arith, suc-mul i (bucket_words z)) in
      stored-each d (drop (bucket_words z) words) (paste tree (bucket_start z b) words (bucket_words z))
      (rw long (λ c m. all c (Memᴰ.tail m))) (rest-enough (length bs) words n) i (omega arith)
      ∙ rw (drop-drop, ← next)
