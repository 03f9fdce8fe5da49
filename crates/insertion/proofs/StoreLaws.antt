-- The stores of an Insert's two paths, and the words moved for them. Assumes nothing.
use Prim.Native.Nat.{ℕ, ◌+◌, ◌*◌, ◌-◌, ◌≤◌}
use mathlib.Core.List.{List, ◌++◌, append_assoc, append-nil}
use mathlib.Core.Path.{◌≡◌, refl, ap, ◌∙◌}
use native.Mathlib.Nat.{mul-le-mul_left}
use native.Mathlib.Omega.{arith}
use lib.ListN.{length, take, drop, length-append, length-drop, drop_of_length-le}
use lib.Seq.{drop_at, drop-drop}
use borrow.Author.Rules.{part_to_end}
use borrow.Rule.Slice.PartMut.{put_mid}
use Rattle.record.specs.declared.Leaf.{Leaf}
use Rattle.path.specs.declared.sizes.Sizes.{Sizes}
use Rattle.path.specs.Layout.{record_words, bucket_words}
use Rattle.lists.specs.BucketList.{words_moved, pair_list, moved}
use Rattle.lists.proofs.ListLaws.{moved-by-counts, pair-counts, next-part}
use Rattle.writing.specs.Stored.{Stored}
use Rattle.parts.specs.declared.Parts.{Parts}
use Rattle.path.specs.Cut.{Cut}
use Rattle.settle.specs.Room.{InsertionRoom}
use Rattle.settle.specs.declared.Settled.{Settled}
use Rattle.settle.specs.Settled.{Writes}
use Rattle.insertion.specs.Store.{PairStoreRoom}

-- a path's words are few
pub path-few : (s : Sizes) (n : ℕ) → Cut s → n ≡ s.h * bucket_words s.z → n ≤ 384
path-few s n cut e =
    let m : s.h * bucket_words s.z ≤ s.h * 24 = mul-le-mul_left s.h (omega (arith, cut.width)) in
    omega (arith, cut.height)

-- and so are the words moved for two paths
pub pair-few : (s : Sizes) (n : ℕ) → Cut s → n ≡ 2 * (s.h * (2 * bucket_words s.z)) → n ≤ 1536
pair-few s n cut e =
    let k = path-few s (s.h * bucket_words s.z) cut refl in
    let f : s.h * (2 * bucket_words s.z) ≡ 2 * (s.h * bucket_words s.z) = omega arith in
    omega arith

-- the words of both paths' buckets are there
pub pair-room : (p : Parts) (first second : Leaf) (ws one two : List ℕ) → InsertionRoom p first second ws
    → length one ≡ p.sizes.h * bucket_words p.sizes.z → length two ≡ p.sizes.h * bucket_words p.sizes.z
    → PairStoreRoom p.sizes ws one two
pair-room p first second ws one two room e f =
    let k = room.fetched in
    let same : p.sizes.h * bucket_words p.sizes.z ≡ 4 * (p.sizes.h * (p.sizes.z + 1)) = omega arith in
    record { sizes = room.parts.sizes; lower = e; upper = f; room = omega arith }

module _ (s : Sizes) (ws one two : List ℕ) (room : PairStoreRoom s ws one two) where
  pub stores-fit : (m n : ℕ) → m ≡ s.h * (2 * bucket_words s.z) → n ≡ s.h * (2 * bucket_words s.z) → m + n ≤ 1536
  stores-fit m n e f = pair-few s (m + n) room.sizes (omega arith)

-- the second path's buckets behind the first's: the rest of the words is written from where these end
both_stored : (before mid rest one two : List ℕ) → mid ≡ one ++ drop (length one) before
    → rest ≡ two ++ drop (length two) (take (length mid - length one) (drop (length one) mid)) → length one ≤ length before
    → put_mid (length one) (length mid - length one) mid rest ≡ (one ++ two) ++ drop (length (one ++ two)) before
both_stored before mid rest one two e f l =
    let long : length mid ≡ length before = ap length e ∙ rw (length-append, length-drop) (omega arith) in
    let tail : drop (length one) mid ≡ drop (length one) before = ap (drop (length one)) e ∙ drop_at one _ (length one) refl in
    let end : rest ≡ two ++ drop (length one + length two) before =
    f ∙ rw (part_to_end mid (length one), tail, drop-drop) in
    rw (long)
    (ap (λ (m : List ℕ). put_mid (length one) (length before - length one) m rest) e
    ∙ next-part one rest before (length one) (length before) refl l
    ∙ rw (drop_of_length-le before {i = length before} (omega arith), append-nil, end, length-append, append_assoc))

module _ (s : Sizes) (before mid rest one two : List ℕ) (m n : ℕ) (out : Settled) (room : PairStoreRoom s before one two)
    (lower : Stored s one before mid m) (upper : Stored s two (take (length mid - length one) (drop (length one) mid)) rest n) where
  pub pair-written : Writes (one ++ two) (2 * (s.h * (2 * bucket_words s.z))) before (put_mid (length one) (length mid - length one) mid rest) out
      (record { root = out.root; least = out.least; c = out.c; found = out.found; moved = out.moved + (m + n) })
  pair-written =
      let k = room.room in
      let e : m + n ≡ 2 * (s.h * (2 * bucket_words s.z)) = omega (arith, lower.counted, upper.counted) in
      record { whole = rw e; words = both_stored before mid rest one two lower.words upper.words (omega arith) }

-- "16h(Z+1) + 8h - 8"
pub pair-words : (s : Sizes) (first second : Leaf) → 1 ≤ s.h
    → 2 * (s.h - 1) * record_words + 2 * (s.h * (2 * bucket_words s.z)) ≡ words_moved s.z (pair_list s.h first second)
pair-words s first second high =
    let n : words_moved s.z (pair_list s.h first second) ≡ 2 * s.h * (2 * bucket_words s.z) + 2 * (s.h - 1) * record_words =
    moved-by-counts s.z (pair_list s.h first second) ∙ ap (moved s.z) (pair-counts s.h first second high) in
    omega arith
