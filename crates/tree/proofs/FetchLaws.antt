-- A fetch on the heap's level: the words that the rack gives for a listed bucket are what the Tree holds there. Assumes
-- nothing.
use Prim.Native.Nat.{ℕ, suc, ◌+◌, ◌*◌, ◌≤◌, ◌<◌}
use mathlib.Core.List.{List, [], ◌∷◌}
use mathlib.Core.Path.{◌≡◌, refl, sym, ap, ◌∙◌}
use native.Mathlib.Nat.{mul-le-mul_right}
use native.Mathlib.Omega.{arith}
use lib.ListN.{length, get_or, take, drop, length-append}
use lib.Seq.{get_or-take, get_or-drop}
use Rattle.record.specs.declared.Bucket.{Bucket}
use Rattle.record.specs.declared.Record.{Record}
use Rattle.record.specs.Standing.{dummy}
use Rattle.record.specs.Words.{records}
use Rattle.record.proofs.WordsLaws.{records-take, records-drop}
use Rattle.path.specs.Path.{bucket}
use Rattle.path.specs.Layout.{record_words, bucket_words, bucket_start}
use Rattle.lists.specs.BucketList.{BucketList}
use Rattle.gather.specs.Shown.{whole_at, sibling_at}
use Rattle.gather.proofs.ShownLaws.{whole-records}
use Rattle.rack.specs.Answers.{words_covered}
use Rattle.copies.specs.Copy.{bucket_part, fetched, AllStand}
use Rattle.copies.specs.BucketAt.{contents_of, bucket_at}
use Rattle.copies.proofs.FetchLaws.{fetched-whole, fetched-least, fetched-length}

first_of : (rs : List Record) → (contents_of rs).least ≡ get_or rs 0 dummy
first_of [] = refl
first_of (r ∷ rs) = refl

-- a bucket's least record is the first of its records
least_first : (z : ℕ) (tree : List ℕ) (b : Bucket) → (bucket_at z tree b).least ≡ get_or (records (drop (bucket_start z b) tree)) 0 dummy
least_first z tree b =
    first_of (records (bucket_part z tree b))
    ∙ rw (records-take (drop (bucket_start z b) tree) (z + 1), get_or-take (z + 1) (records (drop (bucket_start z b) tree)) 0 dummy (omega arith))

module _ (z : ℕ) (tree : List ℕ) (l : BucketList) (words : List ℕ)
    (wholes : AllStand z (length tree) l.whole) (leasts : AllStand z (length tree) l.least) where
  pub fetched-long : words_covered z (length l.whole) (length l.least) ≤ length (fetched z tree l words)
  fetched-long = rw length-append (omega (arith, fetched-length z tree l words wholes leasts))

  pub whole-fetched : (i : ℕ) → i < length l.whole → whole_at z (fetched z tree l words) i ≡ bucket_at z tree (get_or l.whole i (bucket 0))
  whole-fetched i n =
      let fits : suc i * bucket_words z ≤ length l.whole * bucket_words z = mul-le-mul_right (bucket_words z) n in
      let at : 4 * (i * (z + 1)) ≡ i * bucket_words z = omega arith in
      let part = rw (at, fetched-whole z tree l words wholes i n) at (whole-records z (fetched z tree l words) i (omega (arith, fetched-long))) in
      sym (ap contents_of part)

  pub sibling-fetched : (i : ℕ) → i < length l.least
      → sibling_at z (fetched z tree l words) (length l.whole) i ≡ (bucket_at z tree (get_or l.least i (bucket 0))).least
  unfolding sibling_at
  sibling-fetched i n =
      let m = length l.whole in
      let b = get_or l.least i (bucket 0) in
      let ws = fetched z tree l words in
      let at : m * bucket_words z + i * record_words ≡ 4 * (m * (z + 1) + i) = omega arith in
      let none : m * (z + 1) + i + 0 ≡ m * (z + 1) + i = omega arith in
      let read : take 1 (drop (m * (z + 1) + i) (records ws)) ≡ take 1 (records (drop (bucket_start z b) tree)) =
      rw (← records-drop ws (m * (z + 1) + i), ← records-take _ 1, ← records-take _ 1, ← at)
      (ap records (fetched-least z tree l words wholes leasts i n)) in
      let first = ap (λ (rs : List Record). get_or rs 0 dummy) read in
      let left = get_or-take 1 (drop (m * (z + 1) + i) (records ws)) 0 dummy (omega arith)
      ∙ (rw none at (get_or-drop (m * (z + 1) + i) (records ws) 0 dummy)) in
      let right = get_or-take 1 (records (drop (bucket_start z b) tree)) 0 dummy (omega arith) in
      sym left ∙ first ∙ right ∙ sym (least_first z tree b)
