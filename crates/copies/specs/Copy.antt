-- What fetch gives and store leaves: document 01, "A request, step by step" and "Records and numbering". Assumes nothing.
use Rattle.std.specs.Prelude.{ℕ, ◌+◌, ◌≤◌, cond, ltb, length, take, drop}
use mathlib.Core.List.{List, [], ◌∷◌, ◌++◌, map, flat_map, Memᴰ}
use Rattle.std.proofs.Math.Seq.{paste}
use Rattle.record.specs.declared.Bucket.{Bucket}
use Rattle.path.specs.Path.{bucket, number}
use Rattle.path.specs.Layout.{record_words, bucket_words, bucket_start}
use Rattle.lists.specs.BucketList.{BucketList}

-- the first n words of a bucket
abbrev pub part_of : ℕ → ℕ → List ℕ → Bucket → List ℕ
part_of z n tree b = take n (drop (bucket_start z b) tree)

-- "bucket n .. has 4(Z+1) words from word 4(Z+1)(n-2): first its least record, then its slots"
abbrev pub bucket_part : ℕ → List ℕ → Bucket → List ℕ
bucket_part z = part_of z (bucket_words z)

abbrev pub least_part : ℕ → List ℕ → Bucket → List ℕ
least_part z = part_of z record_words

-- a list of numbers "with how many are whole and how many are least-record only"
abbrev pub listed : List ℕ → ℕ → ℕ → BucketList
listed list whole least =
    record { whole = map bucket (take whole list); least = map bucket (take least (drop whole list)) }

-- "the fetched words in list order": the whole buckets, then the least records
abbrev pub fetched_words : ℕ → List ℕ → BucketList → List ℕ
fetched_words z tree l = flat_map (bucket_part z tree) l.whole ++ flat_map (least_part z tree) l.least

-- how many words of its i-th bucket that is
unfoldable pub part_words : ℕ → ℕ → ℕ → ℕ
part_words z whole i = cond (ltb i whole) (bucket_words z) record_words

-- "fetched words past these stay"
abbrev pub fetched : ℕ → List ℕ → BucketList → List ℕ → List ℕ
fetched z tree l words = fetched_words z tree l ++ drop (length (fetched_words z tree l)) words

-- "The rack stores the whole buckets back, in list order, so that of one number named twice the later store stands."
unfoldable pub stored : ℕ → List Bucket → List ℕ → List ℕ → List ℕ
stored z [] words tree = tree
stored z (b ∷ bs) words tree =
    stored z bs (drop (bucket_words z) words) (paste tree (bucket_start z b) words (bucket_words z))

-- a bucket below the root whose words lie within the first n
pub record Stands (z n : ℕ) (b : Bucket) : Type 0 where
  pub below : 2 ≤ number b
  pub within : bucket_start z b + bucket_words z ≤ n

abbrev pub AllStand : ℕ → ℕ → List Bucket → Type 0
AllStand z n bs = (b : Bucket) → Memᴰ b bs → Stands z n b

-- what is asked of the first so many numbers of a list, for a tree of n words
pub record Covered (z n : ℕ) (list : List ℕ) (many : ℕ) : Type 0 where
  pub slots : z ≤ 5
  pub counted : many ≤ length list
  pub stand : AllStand z n (map bucket (take many list))
