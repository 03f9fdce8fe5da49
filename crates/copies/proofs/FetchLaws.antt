-- Fetched words are the listed buckets' words, in list order. Assumes nothing.
use Prim.Native.Nat.{ℕ, zero, suc, ◌+◌, ◌*◌, ◌≤◌, ◌<◌}
use mathlib.Core.List.Memᴰ
use mathlib.Core.List.{List, [], ◌∷◌, ◌++◌, flat_map, append_assoc}
use mathlib.Core.Path.{◌≡◌, refl, ◌∙◌}
use native.Mathlib.Nat.{suc-mul, zero-mul}
use native.Mathlib.Omega.{arith}
use lib.ListN.{length, get_or, take, drop, length-append}
use lib.Seq.{take_at, drop_at, drop-drop}
use Rattle.record.specs.declared.Bucket.{Bucket}
use Rattle.path.specs.Path.{bucket}
use Rattle.path.specs.Layout.{record_words, bucket_words}
use Rattle.lists.specs.BucketList.{BucketList, counts, fetched_for}
use Rattle.copies.specs.Copy.{part_of, bucket_part, least_part, fetched_words, fetched, AllStand}
use Rattle.copies.proofs.LayoutLaws.{part_length, parts-length}

-- part i of equal parts laid one after the other, whatever follows
parts_at :
    (z part : ℕ) (tree : List ℕ) (bs : List Bucket) (rest : List ℕ) (i : ℕ) → part ≤ bucket_words z
    → AllStand z (length tree) bs → i < length bs
    → take part (drop (i * part) (flat_map (part_of z part tree) bs ++ rest)) ≡ part_of z part tree (get_or bs i (bucket 0))
unfolding flat_map
parts_at z part tree [] rest i fits all l = absurd (omega arith)
parts_at z part tree (b ∷ bs) rest zero fits all l =
    let own = part_length z part tree fits b (all b (Memᴰ.head refl)) in
    rw (zero-mul, append_assoc, take_at (part_of z part tree b) _ part own)
parts_at z part tree (b ∷ bs) rest (suc i) fits all l =
    let own = part_length z part tree fits b (all b (Memᴰ.head refl)) in
    let next : suc i * part ≡ part + i * part = rw suc-mul (omega arith) in
    rw (next, ← drop-drop (i * part) part, append_assoc, drop_at (part_of z part tree b) _ part own)
    (parts_at z part tree bs rest i fits (λ c m. all c (Memᴰ.tail m)) (omega arith))

module _ (z : ℕ) (tree : List ℕ) (l : BucketList) (words : List ℕ) (wholes : AllStand z (length tree) l.whole) where
  whole_length : length (flat_map (bucket_part z tree) l.whole) ≡ length l.whole * bucket_words z
  whole_length = parts-length z (bucket_words z) tree (omega arith) l.whole wholes

  -- the words of the i-th whole bucket
  pub fetched-whole :
      (i : ℕ) → i < length l.whole
      → take (bucket_words z) (drop (i * bucket_words z) (fetched z tree l words))
      ≡ bucket_part z tree (get_or l.whole i (bucket 0))
  fetched-whole i n = rw append_assoc (parts_at z (bucket_words z) tree l.whole _ i (omega arith) wholes n)

  module _ (leasts : AllStand z (length tree) l.least) where
    pub fetched-length : length (fetched_words z tree l) ≡ fetched_for z (counts l)
    fetched-length =
        length-append (flat_map (bucket_part z tree) l.whole) _
        ∙ rw (whole_length, parts-length z record_words tree (omega arith) l.least leasts)

    -- the words of the i-th least record
    pub fetched-least :
        (i : ℕ) → i < length l.least
        → take record_words (drop (length l.whole * bucket_words z + i * record_words) (fetched z tree l words))
        ≡ least_part z tree (get_or l.least i (bucket 0))
    fetched-least i n =
        rw (append_assoc, ← drop-drop (i * record_words), drop_at _ _ _ whole_length)
        (parts_at z record_words tree l.least _ i (omega arith) leasts n)
