-- The bucket lists: how long they are, how they are laid part by part, and the words moved for them. Assumes nothing.
use Prim.Native.Nat.{ℕ, suc, ◌+◌, ◌*◌, ◌-◌, ◌^◌, ◌≤◌, ◌<◌}
use mathlib.Core.Path.{◌≡◌, ap, ◌∙◌}
use mathlib.Core.List.{List, [], ◌∷◌, ◌++◌, map, map-append, append_assoc}
use native.Mathlib.Omega.{arith}
use native.Mathlib.Nat.{suc-mul}
use lib.ListN.{length, drop, length-append, length-map}
use lib.Seq.{take_at, drop_at, drop-drop}
use borrow.Rule.Slice.PartMut.{put_mid, Post-is}
use Rattle.record.specs.declared.Leaf.{Leaf}
use Rattle.record.specs.declared.Bucket.{Bucket}
use Rattle.lists.specs.declared.Listed.{Listed}
use Rattle.path.specs.Path.{number, path_bucket, sibling_of, up_from, path}
use Rattle.path.specs.Layout.{record_words, bucket_words}
use Rattle.lists.specs.BucketList.{BucketList, pair_list, path_list, numbers, laid, laid_from, Room, counts, pair_counts, path_counts, sum, words_moved, moved}
use Rattle.path.proofs.LevelLaws.{length-up_from}

-- how long a path is, from level d on
pub length-path : (h : ℕ) (q : Leaf) (d : ℕ) → length (path h q d) ≡ suc h - d
unfolding path
length-path h q d = length-map (up_from d (suc h - d)) (path_bucket h q) ∙ length-up_from d (suc h - d)

pub length-siblings : (h : ℕ) (q : Leaf) (d : ℕ) → length (map sibling_of (path h q d)) ≡ suc h - d
length-siblings h q d = length-map (path h q d) sibling_of ∙ length-path h q d

pub length-numbers : (l : BucketList) → length (numbers l) ≡ length l.whole + length l.least
length-numbers l = length-map (l.whole ++ l.least) number ∙ length-append l.whole l.least

-- the counts by the height alone
pub path-counts : (h : ℕ) (q : Leaf) → counts (path_list h q) ≡ path_counts h
unfolding path_list
path-counts h q =
    let w : length (path h q 1) ≡ h = length-path h q 1 ∙ omega arith in
    let s : length (map sibling_of (path h q 1)) ≡ h = length-siblings h q 1 ∙ omega arith in
    λ i. record { whole = w i; least = s i }

pub pair-counts : (h : ℕ) (first second : Leaf) → 1 ≤ h → counts (pair_list h first second) ≡ pair_counts h
unfolding pair_list
pair-counts h f s l =
    let w : length (path h f 1 ++ path h s 1) ≡ 2 * h =
    length-append (path h f 1) _ ∙ rw (length-path h f 1, length-path h s 1) (omega arith) in
    let n : length (map sibling_of (path h f 2) ++ map sibling_of (path h s 2)) ≡ 2 * (h - 1) =
    length-append (map sibling_of (path h f 2)) _ ∙ rw (length-siblings h f 2, length-siblings h s 2) (omega arith) in
    λ i. record { whole = w i; least = n i }

pub length-path-numbers : (h : ℕ) (leaf : Leaf) → length (numbers (path_list h leaf)) ≡ h + h
length-path-numbers h leaf =
    length-numbers (path_list h leaf) ∙ ap (λ (n : Listed). n.whole + n.least) (path-counts h leaf)

pub length-pair-numbers : (h : ℕ) (first second : Leaf) → 1 ≤ h
    → length (numbers (pair_list h first second)) ≡ h + h + (h - 1) + (h - 1)
length-pair-numbers h first second some =
    length-numbers (pair_list h first second)
    ∙ ap (λ (n : Listed). n.whole + n.least) (pair-counts h first second some)
    ∙ omega arith

-- A list laid part by part: a part that goes from a to e takes its place behind what is done.
pub next-part : (done ys old : List ℕ) (a e : ℕ) → length done ≡ a → a ≤ e
    → put_mid a (e - a) (done ++ drop a old) ys ≡ (done ++ ys) ++ drop e old
next-part done ys old a e n l =
    rw (take_at done (drop a old) a n, drop_at done (drop a old) a n, append_assoc) (ap (λ (r : List ℕ). done ++ (ys ++ r)) (Post-is a e old l))

-- the words moved, by the counts
sum_same : (n : ℕ) (l : List Bucket) → sum (map (λ b. n) l) ≡ length l * n
unfolding sum
sum_same n [] = omega arith
sum_same n (b ∷ l) = rw (sum_same n l, suc-mul) (omega arith)

pub moved-by-counts : (z : ℕ) (l : BucketList) → words_moved z l ≡ moved z (counts l)
unfolding words_moved
moved-by-counts z l = rw (sum_same (2 * bucket_words z) l.whole, sum_same record_words l.least)

-- numbers laid from the first place on, and others laid behind them
laid-first : (a old : List ℕ) → laid_from 0 a old ≡ a ++ drop (length a) old
unfolding laid_from
laid-first a old = let e : 0 + length a ≡ length a = omega arith in rw e

laid_next : (a b old : List ℕ) (k : ℕ) → length a ≡ k → laid_from k b (laid_from 0 a old) ≡ laid_from 0 (a ++ b) old
unfolding laid_from
laid_next a b old k e =
    let from-here : 0 + length a ≡ length a = omega arith in
    let from-there : 0 + length (a ++ b) ≡ length a + length b = rw length-append (omega arith) in
    rw (
      from-here,
      from-there,
      ← drop-drop (length b) k,
      take_at a _ k e,
      drop_at a _ k e,
      drop-drop (length b) (length a) old,
    )

-- the parts that make up a list, each laid behind the ones before it
module _ (h : ℕ) (leaf : Leaf) (old : List ℕ) where
  pub path-laid : (p q : List ℕ) → p ≡ laid_from 0 (map number (path h leaf 1)) old
      → q ≡ laid_from h (map number (map sibling_of (path h leaf 1))) p → q ≡ laid (path_list h leaf) old
  unfolding path_list
  path-laid p q ep eq =
      let n : length (map number (path h leaf 1)) ≡ h = length-map (path h leaf 1) number ∙ length-path h leaf 1 ∙ omega arith in
      eq ∙ ap (laid_from h _) ep ∙ laid_next _ _ old h n ∙ laid-first _ old ∙ rw (← map-append)

four-laid : (a b c d old : List ℕ) (h : ℕ) → 1 ≤ h → length a ≡ h → length b ≡ h → length c ≡ h - 1
    → laid_from (3 * h - 1) d (laid_from (2 * h) c (laid_from h b (laid_from 0 a old))) ≡ laid_from 0 (a ++ b ++ (c ++ d)) old
four-laid a b c d old h some la lb lc =
    let two : length (a ++ b) ≡ 2 * h = length-append a b ∙ omega arith in
    let three : length (a ++ b ++ c) ≡ 3 * h - 1 = length-append (a ++ b) c ∙ omega arith in
    rw (
      laid_next a b old h la,
      laid_next (a ++ b) c old (2 * h) two,
      laid_next (a ++ b ++ c) d old (3 * h - 1) three,
      append_assoc (a ++ b) c d,
    )

module _ (h : ℕ) (first second : Leaf) (old : List ℕ) (some : 1 ≤ h) where
  pub pair-laid : (p q r s : List ℕ) → p ≡ laid_from 0 (map number (path h first 1)) old
      → q ≡ laid_from h (map number (path h second 1)) p
      → r ≡ laid_from (2 * h) (map number (map sibling_of (path h first 2))) q
      → s ≡ laid_from (3 * h - 1) (map number (map sibling_of (path h second 2))) r → s ≡ laid (pair_list h first second) old
  unfolding pair_list
  pair-laid p q r s ep eq er es =
      let la : length (map number (path h first 1)) ≡ h = length-map (path h first 1) number ∙ length-path h first 1 ∙ omega arith in
      let lb : length (map number (path h second 1)) ≡ h = length-map (path h second 1) number ∙ length-path h second 1 ∙ omega arith in
      let lc : length (map number (map sibling_of (path h first 2))) ≡ h - 1 =
      length-map (map sibling_of (path h first 2)) number ∙ length-siblings h first 2 ∙ omega arith in
      rw (es, er, eq, ep) (four-laid _ _ _ _ old h some la lb lc ∙ laid-first _ old ∙ simp map-append)

-- ---- room for each part of a list
pub path_room : (h : ℕ) (leaf : Leaf) (n : ℕ) → (h ≤ 16) × (leaf.0 < 2 ^ h) → length (numbers (path_list h leaf)) ≤ n
    → Room h leaf.0 1 0 n × Room h leaf.0 1 h n
path_room h leaf n (height, below) long =
    let e = length-path-numbers h leaf in (
      record { height = height; leaf = below; level = omega arith; room = omega arith },
      record { height = height; leaf = below; level = omega arith; room = omega arith },
    )

pub record PairRoom (h : ℕ) (first second : Leaf) (n : ℕ) : Type 0 where
  pub first-path : Room h first.0 1 0 n
  pub second-path : Room h second.0 1 h n
  pub first-siblings : Room h first.0 2 (2 * h) n
  pub second-siblings : Room h second.0 2 (3 * h - 1) n

pub pair-room : (h : ℕ) (first second : Leaf) (n : ℕ) → (1 ≤ h) × (h ≤ 16) → (first.0 < 2 ^ h) × (second.0 < 2 ^ h)
    → length (numbers (pair_list h first second)) ≤ n → PairRoom h first second n
pair-room h first second n (some, height) (one, two) long =
    let e = length-pair-numbers h first second some in
    record {
      first-path = record { height = height; leaf = one; level = omega arith; room = omega arith };
      second-path = record { height = height; leaf = two; level = omega arith; room = omega arith };
      first-siblings = record { height = height; leaf = one; level = omega arith; room = omega arith };
      second-siblings = record { height = height; leaf = two; level = omega arith; room = omega arith };
    }

-- ---- the closed formulas
-- "16h(Z+1) + 8h - 8 for Insert"
pub pair-moved : (z h : ℕ) (first second : Leaf) → 1 ≤ h
    → words_moved z (pair_list h first second) ≡ 16 * h * (z + 1) + 8 * h - 8
pair-moved z h first second l =
    moved-by-counts z (pair_list h first second) ∙ ap (moved z) (pair-counts h first second l) ∙ omega arith

-- "and 4h(2Z+3) for the others"
pub path-moved : (z h : ℕ) (leaf : Leaf) → words_moved z (path_list h leaf) ≡ 4 * h * (2 * z + 3)
path-moved z h leaf = moved-by-counts z (path_list h leaf) ∙ ap (moved z) (path-counts h leaf) ∙ omega arith
