-- Where each bucket of a path stands in its words: how long they are, and the part of the bucket at each level.
-- Assumes nothing.
use Prim.Native.Nat.{ℕ, zero, suc, ◌+◌, ◌*◌, ◌≤◌, ◌<◌}
use mathlib.Core.List.{List, [], ◌∷◌, ◌++◌, map, append_assoc}
use mathlib.Core.Path.{◌≡◌, refl, ◌∙◌}
use native.Mathlib.Nat.{suc-mul}
use native.Mathlib.Omega.{arith}
use lib.ListN.{length, take, drop, length-append}
use lib.Seq.{take_at, drop_at, drop-drop}
use Rattle.record.proofs.WordsLaws.{words-length}
use Rattle.path.specs.Layout.{Contents, contents_words, bucket_words}
use Rattle.path.specs.Path.{up_from}
use Rattle.mend.specs.Mended.{path_words}

pub length-contents : (z : ℕ) (b : Contents) → length b.slots ≡ z → length (contents_words b) ≡ bucket_words z
length-contents z b e = words-length _ ∙ omega arith

-- the words of two paths' buckets
pub path-words-append : (xs ys : List Contents) → path_words (xs ++ ys) ≡ path_words xs ++ path_words ys
unfolding path_words
path-words-append [] ys = refl
path-words-append (x ∷ xs) ys = rw (path-words-append xs ys, append_assoc)

-- ---- the buckets that f gives for n levels from `a` on, each of z slots
module _ (z : ℕ) (f : ℕ → Contents) where
  pub length-buckets : (a n : ℕ) → ((d : ℕ) → a ≤ d → d < a + n → length (f d).slots ≡ z)
      → length (path_words (map f (up_from a n))) ≡ n * bucket_words z
  unfolding path_words up_from
  length-buckets a zero each = omega arith
  length-buckets a (suc n) each =
      let one = length-contents z (f a) (each a (omega arith) (omega arith)) in
      let rest = length-buckets (suc a) n (λ d k l. each d (omega arith) (omega arith)) in
      rw (length-append, one, rest, suc-mul n (bucket_words z)) (omega arith)

  pub bucket-part : (a n i : ℕ) (more : List ℕ) → ((d : ℕ) → a ≤ d → d < a + n → length (f d).slots ≡ z) → i < n
      → take (bucket_words z) (drop (i * bucket_words z) (path_words (map f (up_from a n)) ++ more)) ≡ contents_words (f (a + i))
  unfolding path_words up_from
  bucket-part a zero i more each l = absurd (omega arith)
  bucket-part a (suc n) zero more each l =
      let one = length-contents z (f a) (each a (omega arith) (omega arith)) in
      let none : 0 * bucket_words z ≡ 0 = omega arith in
      let here : a + 0 ≡ a = omega arith in
      rw (none, append_assoc, take_at (contents_words (f a)) _ (bucket_words z) one, here)
  bucket-part a (suc n) (suc i) more each l =
      let one = length-contents z (f a) (each a (omega arith) (omega arith)) in
      let past : suc i * bucket_words z ≡ bucket_words z + i * bucket_words z = rw (suc-mul i (bucket_words z)) (omega arith) in
      let here : a + suc i ≡ suc a + i = omega arith in
      rw (past, ← drop-drop, append_assoc, drop_at (contents_words (f a)) _ (bucket_words z) one, here)
      (bucket-part (suc a) n i more (λ d k m. each d (omega arith) (omega arith)) (omega arith))
