-- A path's least records worked out from the leaf up and its buckets laid in words: what the loop has done so far.
-- Assumes nothing.
use Prim.Native.Nat.{ℕ, suc, ◌+◌, ◌*◌, ◌-◌, ◌≤◌, ◌<◌}
use mathlib.Core.List.{List, ◌++◌, map, append-nil}
use mathlib.Core.Path.{◌≡◌, refl, sym, ap, ◌∙◌}
use native.Mathlib.Nat.{suc-mul, mul-le-mul_left, mul-le-mul_right}
use native.Mathlib.Omega.{arith}
use lib.ListN.{length, take, drop}
use lib.Seq.{length-take-le, take_all, drop_at, drop-drop, take-append-le, take-take}
use borrow.Rule.Slice.PartMut.{put_mid, mid_of, same_len_mid}
use Rattle.record.specs.declared.Leaf.{Leaf}
use Rattle.record.specs.declared.Bucket.{Bucket}
use Rattle.record.specs.declared.Record.{Record}
use Rattle.record.specs.declared.Rule.{Rule}
use Rattle.record.specs.Order.{smallest, smallest_by}
use Rattle.record.specs.Standing.{dummy}
use Rattle.record.specs.Words.{words4, record_at, records, words_of}
use Rattle.record.proofs.WordsLaws.{records-at, records-words}
use Rattle.path.specs.declared.sizes.Sizes.{Sizes}
use Rattle.path.specs.Layout.{Contents, contents_words, bucket_words}
use Rattle.path.specs.Path.{path_bucket, up_from}
use Rattle.least.specs.Least.{slots_at, over, in_order, kids, mended_at}
use Rattle.least.proofs.LeastLaws.{smallest-over}
use Rattle.way.proofs.WayLaws.{level_before, part-words}
use Rattle.mend.specs.Mended.{path_words, beside_at, Mended, MendRoom}

-- a part that ends where the words of what is done begin takes its words before those
before-done : (old now done ys : List ℕ) (start end : ℕ) → start ≤ end → end ≤ length old → now ≡ take end old ++ done
    → put_mid start (end - start) now ys ≡ take start old ++ (ys ++ done)
before-done old now done ys start end l k e =
    let front : length (take end old) ≡ end = length-take-le end old k in
    let up : start + (end - start) ≡ end = omega arith in
    let kept = take-append-le start (take end old) done (omega arith) ∙ take-take start end old l in
    let behind = drop-drop (end - start) start (take end old ++ done) in
    rw (e, kept, behind, up, drop_at (take end old) done end front)

-- ---- a path and its way: the slots of a level, the children's least records j levels above the leaf, and a bucket
abbrev slots : Sizes → List ℕ → ℕ → List Record
slots s w d = slots_at s.r s.z (records w) d

module _ (rule : Rule) (s : Sizes) (q : Leaf) (w beside : List ℕ) where
  abbrev children : ℕ → List Record
  children j = kids rule s.h q (slots s w) (beside_at (records beside)) j

  abbrev bucket_at : ℕ → Contents
  bucket_at d = mended_at rule s.h q (slots s w) (beside_at (records beside)) d

-- the levels below `level` are done: their buckets are laid, and `least` is the smallest of the children's least records
pub record Mending (s : Sizes) (q : Leaf) (old w beside now : List ℕ) (level last end : ℕ) (least : Record) : Type 0 where
  pub room : length now ≡ length old
  pub reached : level ≤ s.h
  pub behind : last ≡ 4 * (s.r + s.z * level)
  pub place : end ≡ level * bucket_words s.z
  pub done : (rule : Rule) → now ≡ take end old ++ path_words (map (bucket_at rule s q w beside) (up_from (suc level) (s.h - level)))
  pub below : (rule : Rule) → least ≡ smallest rule (children rule s q w beside (s.h - level))

-- the next bucket and its slots lie within the path and the way
pub record Within (s : Sizes) (now w : List ℕ) (last end : ℕ) : Type 0 where
  pub slots : 4 * s.z ≤ last
  pub way : last ≤ length w
  pub bucket : bucket_words s.z ≤ end
  pub path : end ≤ length now

module _ (s : Sizes) (q : Leaf) (old w beside : List ℕ) (given : MendRoom s q old w beside) where
  pub mending-starts : Mending s q old w beside old s.h (length w) (length old) dummy
  unfolding path_words kids up_from smallest_by
  mending-starts =
      let none : s.h - s.h ≡ 0 = omega arith in
      record {
        room = refl;
        reached = omega arith;
        behind = given.slots;
        place = given.buckets;
        done = λ rule. rw (none, append-nil, take_all (length old) old (omega arith));
        below = λ rule. rw none;
      }

  module _ (now : List ℕ) (level last end : ℕ) (least : Record) (n : Mending s q old w beside now level last end least) where
    pub mending-ends : level ≤ 0 → (rule : Rule) → Mended rule s q (records w) (records beside) now least
    mending-ends l rule =
        let e : level ≡ 0 = omega arith in
        let none : end ≡ 0 = n.place ∙ rw e (omega arith) in
        let all : s.h - 0 ≡ s.h = omega arith in
        record {
          words = n.done rule ∙ rw (none, e, all);
          children = n.below rule ∙ rw (e, all);
        }

    module _ (p : 0 < level) where
      pub within : Within s now w last end
      within =
          let up = level_before s.z level p in
          let down = mul-le-mul_left s.z n.reached in
          let next = mul-le-mul_right (bucket_words s.z) p in
          let path = mul-le-mul_right (bucket_words s.z) n.reached in
          record {
            slots = omega (arith, n.behind);
            way = omega (arith, n.behind, given.slots);
            bucket = omega (arith, n.place);
            path = omega (arith, n.place, n.room, given.buckets);
          }

      -- the slots of this level, as records and as words
      lo : ℕ
      lo = s.r + s.z * (level - 1)

      place : last - 4 * s.z ≡ 4 * lo
      unfolding lo
      place = omega (arith, n.behind, level_before s.z level p)

      part-is : take (last - (last - 4 * s.z)) (drop (last - 4 * s.z) w) ≡ take (4 * s.z) (drop (4 * lo) w)
      part-is =
          let size : last - (last - 4 * s.z) ≡ 4 * s.z = omega (arith, within.slots) in
          rw (size, place)

      slots-words : take (last - (last - 4 * s.z)) (drop (last - 4 * s.z) w) ≡ words_of (slots s w level)
      unfolding lo slots_at
      slots-words = part-is ∙ sym (part-words w lo s.z (omega (arith, place, within.slots, within.way)))

      slots-records : records (take (last - (last - 4 * s.z)) (drop (last - 4 * s.z) w)) ≡ slots s w level
      slots-records = ap records slots-words ∙ records-words _

      slots-all : take s.z (slots s w level) ≡ slots s w level
      unfolding slots_at
      slots-all = take-take s.z s.z (drop (s.r + s.z * (level - 1)) (records w)) (omega arith)

      -- the bucket of this level is laid, and its parent's children are known
      module _ (own other next : Record) (b : Bucket) (ys : List ℕ) where
        pub mending-turns :
            ((rule : Rule) → own ≡ over rule (take s.z (records (take (last - (last - 4 * s.z)) (drop (last - 4 * s.z) w)))) least)
            → ys ≡ words4 own ++ take (last - (last - 4 * s.z)) (drop (last - 4 * s.z) w)
            → length ys ≡ length (mid_of (end - 4 * s.z - 4) (end - (end - 4 * s.z - 4)) now)
            → other ≡ record_at beside (level - 1) → b ≡ path_bucket s.h q level → ((rule : Rule) → next ≡ smallest rule (in_order b own other))
            → Mending s q old w beside (put_mid (end - 4 * s.z - 4) (end - (end - 4 * s.z - 4)) now ys) (level - 1)
            (last - 4 * s.z) (end - 4 * s.z - 4) next
        unfolding kids up_from path_words words_of lo
        mending-turns eo ey el eb ek en =
            let start = end - 4 * s.z - 4 in
            let up : suc (level - 1) ≡ level = omega arith in
            let more : s.h - (level - 1) ≡ suc (s.h - level) = omega (arith, n.reached) in
            let here : s.h - (s.h - level) ≡ level = omega (arith, n.reached) in
            let least-is : (rule : Rule) → own ≡ (bucket_at rule s q w beside level).least = λ rule.
            eo rule ∙ rw (slots-records, slots-all, n.below rule, smallest-over) in
            let sibling = records-at beside (level - 1) dummy (omega (arith, given.siblings, n.reached)) in
            let words_are : (rule : Rule) → ys ≡ contents_words (bucket_at rule s q w beside level) = λ rule.
            ey ∙ rw (slots-words, least-is rule) in
            record {
              room = same_len_mid start (end - start) now ys el ∙ n.room;
              reached = omega (arith, n.reached);
              behind = place;
              place = omega (arith, n.place, suc-mul (level - 1) (bucket_words s.z), ap (λ m. m * bucket_words s.z) up);
              done = λ rule.
                  before-done old now _ ys start end (omega arith) (omega (arith, within.path, n.room)) (n.done rule)
                  ∙ rw (up, more, words_are rule);
              below = λ rule. en rule ∙ rw (more, here, ek, least-is rule, eb, sibling);
            }
