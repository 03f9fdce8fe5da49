-- Buckets stored one by one: what the loop has done so far. Assumes nothing.
use Prim.Native.Nat.{ℕ, ◌+◌, ◌*◌, ◌-◌, ◌≤◌, ◌<◌}
use mathlib.Core.List.{List, ◌++◌}
use mathlib.Core.Path.{◌≡◌, refl, sym, ap, ◌∙◌}
use native.Mathlib.Nat.{suc-mul, mul-le-mul_right, mul_left_comm}
use native.Mathlib.Numerals.{add-one}
use native.Mathlib.Omega.{arith}
use lib.ListN.{length, take, drop}
use lib.Seq.{length-take-le, take_all, take-add}
use borrow.Rule.Slice.PartMut.{put_mid, mid_of, same_len_mid}
use Rattle.path.specs.declared.sizes.Sizes.{Sizes}
use Rattle.path.specs.Layout.{bucket_words}
use Rattle.lists.proofs.ListLaws.{next-part}
use Rattle.writing.specs.Stored.{Stored}

-- a path's buckets, each of `size` words: the first i are stored
pub record Storing (size h : ℕ) (from old now : List ℕ) (moved start i : ℕ) : Type 0 where
  pub room : length now ≡ length old
  pub turns : i ≤ h
  pub place : start ≡ i * size
  pub counted : moved ≡ 2 * start
  pub done : now ≡ take start from ++ drop start old

module _ (size h : ℕ) (from old : List ℕ) where
  pub storing-starts : Storing size h from old old 0 0 0
  storing-starts = record { room = refl; turns = omega arith; place = omega arith; counted = omega arith; done = refl }

  module _ (all : length from ≡ h * size) (now : List ℕ) (moved start i : ℕ) (n : Storing size h from old now moved start i) where
    pub storing-turns : (part : List ℕ) → i < h → length part ≡ length (mid_of start (start + size - start) now)
        → part ≡ take (start + size - start) (drop start from)
        → Storing size h from old (put_mid start (start + size - start) now part) (moved + 2 * size) (start + size) (i + 1)
    storing-turns part l e q =
        let more = rw suc-mul at (mul-le-mul_right size l) in
        let front : length (take start from) ≡ start = length-take-le start from (omega (arith, n.place)) in
        let back : start + size - start ≡ size = omega arith in
        record {
          room = same_len_mid start (start + size - start) now part e ∙ n.room;
          turns = omega arith;
          place = omega (arith, n.place, suc-mul i size, ap (λ m. m * size) (add-one i));
          counted = omega (arith, n.counted);
          done =
              rw n.done (next-part (take start from) part old start (start + size) front (omega arith) ∙ rw (q, back, take-add));
        }

    pub storing-ends : (sizes : Sizes) → h ≤ i → h ≡ sizes.h → size ≡ bucket_words sizes.z → Stored sizes from old now moved
    storing-ends sizes l eh ez =
        let e : i ≡ h = omega (arith, n.turns) in
        let end : start ≡ length from = n.place ∙ rw e (sym all) in
        record {
          words = n.done ∙ rw (end, take_all (length from) from (omega arith));
          counted = n.counted ∙ rw (← eh, ← ez) (omega (arith, all, mul_left_comm h 2 size));
        }

-- the next bucket lies within the path
pub next_bucket : (size h z i : ℕ) (from : List ℕ) → size ≡ bucket_words z → length from ≡ h * bucket_words z → i < h → i * size + size ≤ length from
next_bucket size h z i from e all l =
    let more = rw suc-mul at (mul-le-mul_right size l) in
    rw (all, ← e) (omega arith)
