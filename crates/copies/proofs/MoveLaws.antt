-- Buckets fetched and stored one after the other: where each loop begins, what a turn does, and what it comes to. Assumes
-- nothing.
use Prim.Native.Nat.{ℕ, ◌+◌, ◌*◌, ◌≤◌, ◌<◌}
use mathlib.Core.Bool.{true, false, cond}
use mathlib.Core.List.{List, [], ◌∷◌, ◌++◌, map, flat_map, append_assoc}
use mathlib.Core.Path.{◌≡◌, refl, sym, ap, ◌∙◌}
use native.Mathlib.Omega.{arith}
use native.Mathlib.Nat.{mul-le-mul_right}
use native.Mathlib.Numerals.{add-one}
use lib.Dec.{ltb}
use lib.ListN.{length, get_or, take, drop, length-append, length-drop, drop_of_length-le}
use lib.Seq.{length-take-le, take_all, take_at, drop_at, take-add, drop-cons, drop-drop, paste, length-paste}
use borrow.Author.Tests.{lt-ltb, le-ltb}
use Rattle.path.specs.Path.{bucket}
use Rattle.path.specs.Layout.{record_words, bucket_words, bucket_start}
use Rattle.copies.specs.Copy.{part_of, bucket_part, least_part, listed, part_words, fetched_words, fetched, stored, Covered}
use Rattle.copies.proofs.CoverLaws.{covered-at, whole-stand, least-stand, whole-count, least-count}
use Rattle.copies.proofs.LayoutLaws.{part_length}
use Rattle.copies.proofs.FetchLaws.{fetched-length}

-- the numbers from place i on, the first apart
next-number : (ns : List ℕ) (i : ℕ) → i < length ns → drop i ns ≡ get_or ns i 0 ∷ drop (i + 1) ns
next-number ns i l = drop-cons ns i 0 l ∙ rw add-one

-- ---- fetch: the parts of some numbers, the first of which is the i-th of its list
unfoldable pub parts_from : ℕ → List ℕ → ℕ → ℕ → List ℕ → List ℕ
parts_from z tree whole i [] = []
parts_from z tree whole i (n ∷ ns) = part_of z (part_words z whole i) tree (bucket n) ++ parts_from z tree whole (i + 1) ns

pub whole_part : (z whole i : ℕ) → i < whole → part_words z whole i ≡ bucket_words z
unfolding part_words
whole_part z whole i l = rw (lt-ltb i whole l)

pub least-part : (z whole i : ℕ) → whole ≤ i → part_words z whole i ≡ record_words
unfolding part_words
least-part z whole i l = rw (le-ltb i whole l)

pub part-most : (z whole i : ℕ) → part_words z whole i ≤ bucket_words z
unfolding part_words
part-most z whole i = elim (ltb i whole) as (λ t. cond t (bucket_words z) record_words ≤ bucket_words z) [
  | true ↦ omega arith
  | false ↦ omega arith
]

module _ (z : ℕ) (tree : List ℕ) (whole : ℕ) where
  least-parts :
      (i : ℕ) (ns : List ℕ) → whole ≤ i → parts_from z tree whole i ns ≡ flat_map (least_part z tree) (map bucket ns)
  unfolding parts_from flat_map
  least-parts i [] l = refl
  least-parts i (n ∷ ns) l = rw (least-part z whole i l, least-parts (i + 1) ns (omega arith))

  all-parts :
      (i : ℕ) (ns ms : List ℕ) → i + length ns ≡ whole
      → parts_from z tree whole i (ns ++ ms)
      ≡ flat_map (bucket_part z tree) (map bucket ns) ++ flat_map (least_part z tree) (map bucket ms)
  unfolding parts_from flat_map
  all-parts i [] ms e = least-parts i ms (omega arith)
  all-parts i (n ∷ ns) ms e = rw (whole_part z whole i (omega arith), all-parts (i + 1) ns ms (omega arith), append_assoc)

module _ (whole least : ℕ) {z : ℕ} (tree : List ℕ) {list : List ℕ} (c : Covered z (length tree) list (whole + least)) where
  parts-fetched :
      parts_from z tree whole 0 (take (whole + least) list) ≡ fetched_words z tree (listed list whole least)
  parts-fetched =
      let e = length-take-le whole list (omega (arith, c.counted)) in
      rw take-add (all-parts z tree whole 0 (take whole list) (take least (drop whole list)) (omega arith))

  pub fetched-words : length (fetched_words z tree (listed list whole least)) ≡ whole * bucket_words z + least * 4
  fetched-words =
      fetched-length z tree (listed list whole least) [] (whole-stand whole least c) (least-stand whole least c)
      ∙ rw (whole-count whole least c, least-count whole least c)

-- the parts of the first i numbers are fetched
pub record Fetching (z : ℕ) (tree list : List ℕ) (whole least : ℕ) (old now : List ℕ) (at i : ℕ) : Type 0 where
  pub reached : at ≤ length (fetched_words z tree (listed list whole least))
  pub left :
      drop at (fetched_words z tree (listed list whole least))
      ≡ parts_from z tree whole i (drop i (take (whole + least) list))
  pub done : now ≡ take at (fetched_words z tree (listed list whole least)) ++ drop at old

module _
    (whole least : ℕ) {z : ℕ} (tree : List ℕ) {list : List ℕ} (old : List ℕ)
    (c : Covered z (length tree) list (whole + least)) (enough : whole * bucket_words z + least * 4 ≤ length old) where
  pub fetching-starts : Fetching z tree list whole least old old 0 0
  fetching-starts =
      record {
        reached = omega arith;
        left = sym (parts-fetched whole least tree c);
        done = refl;
      }

  module _ (now : List ℕ) (at i : ℕ) (f : Fetching z tree list whole least old now at i) where
    module _ (l : i < length (take (whole + least) list)) where
      own : List ℕ
      own = part_of z (part_words z whole i) tree (bucket (get_or (take (whole + least) list) i 0))

      rest : List ℕ
      rest = parts_from z tree whole (i + 1) (drop (i + 1) (take (whole + least) list))

      own-length : length own ≡ part_words z whole i
      unfolding own
      own-length = part_length z (part_words z whole i) tree (part-most z whole i) _ (covered-at c i l)

      left-now : drop at (fetched_words z tree (listed list whole least)) ≡ own ++ rest
      unfolding own rest parts_from
      left-now = f.left ∙ rw (next-number (take (whole + least) list) i l)

      next-reached : at + part_words z whole i ≤ length (fetched_words z tree (listed list whole least))
      next-reached =
          omega (
            arith,
            ap length left-now,
            length-append own rest,
            own-length,
            length-drop at (fetched_words z tree (listed list whole least)),
            f.reached,
          )

      pub fetching-fits : at + part_words z whole i ≤ length old
      fetching-fits = omega (arith, next-reached, fetched-words whole least tree c)

      pub fetching-turns :
          (from : ℕ) → from ≡ bucket_start z (bucket (get_or (take (whole + least) list) i 0))
          → Fetching z tree list whole least old (paste now at (drop from tree) (part_words z whole i)) (at + part_words z whole i) (i + 1)
      unfolding own rest
      fetching-turns from e =
          let all = fetched_words z tree (listed list whole least) in
          let front = length-take-le at all f.reached in
          record {
            reached = next-reached;
            left = rw (← drop-drop (part_words z whole i) at, left-now) (drop_at own rest (part_words z whole i) own-length);
            done =
                rw (
                  f.done,
                  e,
                  take_at (take at all) (drop at old) at front,
                  ← drop-drop (part_words z whole i) at (take at all ++ drop at old),
                  drop_at (take at all) (drop at old) at front,
                  drop-drop (part_words z whole i) at old,
                  take-add at (part_words z whole i) all,
                  left-now,
                  take_at own rest (part_words z whole i) own-length,
                );
          }

    pub fetching-ends : length (take (whole + least) list) ≤ i → now ≡ fetched z tree (listed list whole least) old
    unfolding parts_from
    fetching-ends l =
        let all = fetched_words z tree (listed list whole least) in
        let none : drop i (take (whole + least) list) ≡ [] =
        drop_of_length-le (take (whole + least) list) {i = i} l in
        let gone : drop at all ≡ [] = f.left ∙ rw none in
        let e : at ≡ length all = omega (arith, length-drop at all, ap length gone, f.reached) in
        f.done ∙ rw (e, take_all (length all) all (omega arith))

-- ---- store: with the rest stored too, the tree is as it should be
pub record Storing (z : ℕ) (list : List ℕ) (whole : ℕ) (words old now : List ℕ) (at i : ℕ) : Type 0 where
  pub room : length now ≡ length old
  pub reached : at ≡ i * bucket_words z
  pub done :
      stored z (map bucket (drop i (take whole list))) (drop at words) now
      ≡ stored z (map bucket (take whole list)) words old

-- one part more of equal parts
next_fits : (i n k : ℕ) → i < n → i * k + k ≤ n * k
next_fits i n k l = omega (arith, mul-le-mul_right k l)

module _
    {z : ℕ} {list : List ℕ} {whole : ℕ} (words old : List ℕ) (c : Covered z (length old) list whole)
    (enough : whole * bucket_words z ≤ length words) where
  pub storing-starts : Storing z list whole words old old 0 0
  storing-starts = record { room = refl; reached = omega arith; done = refl }

  module _ (now : List ℕ) (at i : ℕ) (s : Storing z list whole words old now at i) where
    module _ (l : i < length (take whole list)) where
      pub storing-fits : at + bucket_words z ≤ length words
      storing-fits =
          let n = length-take-le whole list c.counted in
          omega (arith, s.reached, next_fits i whole (bucket_words z) (omega arith))

      pub storing-within : bucket_start z (bucket (get_or (take whole list) i 0)) + bucket_words z ≤ length now
      storing-within = rw s.room (covered-at c i l).within

      pub storing-turns :
          (to : ℕ) → to ≡ bucket_start z (bucket (get_or (take whole list) i 0))
          → Storing z list whole words old (paste now to (drop at words) (bucket_words z)) (at + bucket_words z) (i + 1)
      unfolding stored
      storing-turns to e =
          let fits = storing-fits in
          let long : bucket_words z ≤ length (drop at words) = rw length-drop (omega arith) in
          record {
            room =
                rw e
                (length-paste now (bucket_start z (bucket (get_or (take whole list) i 0))) (drop at words) (bucket_words z) storing-within long)
                ∙ s.room;
            reached = omega (arith, s.reached);
            done =
                rw (← drop-drop (bucket_words z) at words, e)
                (rw (next-number (take whole list) i l) at s.done);
          }

    pub storing-ends : length (take whole list) ≤ i → now ≡ stored z (map bucket (take whole list)) words old
    unfolding stored
    storing-ends l = rw (drop_of_length-le (take whole list) {i = i} l) at s.done
