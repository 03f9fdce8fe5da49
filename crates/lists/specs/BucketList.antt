-- The bucket list of each request, and the words moved for it: document 01, "A request, step by step". Assumes nothing.
use Rattle.std.specs.Prelude.{ℕ, ◌+◌, ◌*◌, ◌-◌, ◌≤◌, ◌<◌, ◌^◌, ◌≡◌, List, [], ◌∷◌, ◌++◌, map, length, take, drop}
use Rattle.record.specs.declared.Leaf.{Leaf}
use Rattle.record.specs.declared.Bucket.{Bucket}
use Rattle.lists.specs.declared.Listed.{Listed}
use Rattle.path.specs.Path.{number, path, sibling_of}
use Rattle.path.specs.Layout.{record_words, bucket_words}

-- the buckets asked for whole, and those asked for their least record only
pub record BucketList : Type 0 where
  pub whole : List Bucket
  pub least : List Bucket

-- FindMin: "with an empty list"
abbrev pub no_buckets : BucketList
no_buckets = record { whole = []; least = [] }

-- Insert: "the first leaf's path at levels 1 to h, then the second's, all whole; then at levels 2 to h the siblings of
-- the first and of the second path, least record only"
unfoldable pub pair_list : ℕ → Leaf → Leaf → BucketList
pair_list h first second =
    record {
      whole = path h first 1 ++ path h second 1;
      least = map sibling_of (path h first 2) ++ map sibling_of (path h second 2);
    }

-- ExtractMin and Delete: "the path at levels 1 to h whole, then its siblings at levels 1 to h, least record only"
unfoldable pub path_list : ℕ → Leaf → BucketList
path_list h leaf = record { whole = path h leaf 1; least = map sibling_of (path h leaf 1) }

-- "a list of bucket numbers in a lent slice", and "list places past the last number stay"
abbrev pub numbers : BucketList → List ℕ
numbers l = map number (l.whole ++ l.least)

abbrev pub laid : BucketList → List ℕ → List ℕ
laid l places = numbers l ++ drop (length (numbers l)) places

-- numbers laid from a place on, every other place as it was
unfoldable pub laid_from : ℕ → List ℕ → List ℕ → List ℕ
laid_from at ns places = (take at places ++ ns) ++ drop (at + length ns) places

-- what is asked of the buckets of leaf q from a level on, to be named from a place of n places on
pub record Room (h q from at n : ℕ) : Type 0 where
  pub height : h ≤ 16
  pub leaf : q < 2 ^ h
  pub level : from ≤ h + 1
  pub room : at + (h + 1 - from) ≤ n

-- what a function of buckets gives at each of them
abbrev pub Gives : {F : Type 0} → (F → Bucket → Bucket → Type 0) → F → (Bucket → Bucket) → Type 0
Gives post f g = (b r : Bucket) → b.0 < 2 ^ 64 → post f b r → r ≡ g b

-- "with how many are whole and how many are least-record only"
abbrev pub counts : BucketList → Listed
counts l = record { whole = length l.whole; least = length l.least }

-- a list named in lent places, with its counts
pub record Names (l : BucketList) (before after : List ℕ) (answer : Listed) : Type 0 where
  pub places : after ≡ laid l before
  pub counted : answer ≡ counts l

-- the counts by the height alone
abbrev pub pair_counts : ℕ → Listed
pair_counts h = record { whole = 2 * h; least = 2 * (h - 1) }

abbrev pub path_counts : ℕ → Listed
path_counts h = record { whole = h; least = h }

-- "the words moved, fetched plus stored: the sum over the list, 4(Z+1) for each whole bucket twice and 4 for each
-- sibling once"
unfoldable pub sum : List ℕ → ℕ
sum [] = 0
sum (n ∷ ns) = n + sum ns

unfoldable pub words_moved : ℕ → BucketList → ℕ
words_moved z l = sum (map (λ b. 2 * bucket_words z) l.whole) + sum (map (λ b. record_words) l.least)

-- the same by the counts alone
abbrev pub moved : ℕ → Listed → ℕ
moved z n = n.whole * (2 * bucket_words z) + n.least * record_words

-- the words that are fetched for it: 4(Z+1) for each whole bucket, 4 for each least record
abbrev pub fetched_for : ℕ → Listed → ℕ
fetched_for z n = n.whole * bucket_words z + n.least * record_words
