-- Begin's lists on the rack: the numbers that begin laid name its buckets again, the rack refuses none of them, and no
-- list names a whole bucket twice. Assumes nothing.
use Prim.Native.Nat.{ℕ, zero, suc, ◌+◌, ◌*◌, ◌-◌, ◌/◌, ◌≤◌, ◌<◌}
use mathlib.Core.Bool.{true, false}
use mathlib.Core.List.Memᴰ
use mathlib.Core.List.{List, [], ◌∷◌, ◌++◌, map, map-append, append_assoc, Memᴰ}
use mathlib.Core.Logic.{⊎_elim}
use mathlib.Core.Path.{◌≡◌, refl, sym, ap, ◌∙◌}
use mathlib.Mathlib.Data.Bool.Basic.{or-eq-false-eq-eq-false-and-eq-false as neither}
use native.Mathlib.Omega.{arith}
use lib.ListN.{length, take, drop, length-append, length-map}
use lib.Seq.{take_at, drop_at}
use Rattle.record.specs.declared.Bucket.{Bucket}
use Rattle.record.specs.declared.Leaf.{Leaf}
use Rattle.path.specs.Path.{bucket, number, path_bucket, sibling_of, up_from, path}
use Rattle.path.specs.Sizes.{leaves_of, tree_in}
use Rattle.path.specs.Layout.{tree_words}
use Rattle.lists.specs.BucketList.{BucketList, pair_list, path_list, numbers, laid, counts}
use Rattle.path.proofs.PathLaws.{path-in-tree, sibling-in-tree, levels-apart, pair-apart}
use Rattle.path.proofs.LevelLaws.{at_level}
use Rattle.lists.proofs.Naming.{path-named, siblings-named}
use Rattle.refusal.specs.Refusal.{first_given}
use Rattle.rack.specs.Answers.{words_covered, outside, any_outside, copy_table}
use Rattle.copies.specs.Copy.{listed}
use Rattle.rack.proofs.RefusalLaws.{not-outside, passes-copy}
use Rattle.copies.proofs.StoreLaws.{Distinct, none, more}

-- ---- the list laid in lent places
numbered : (bs : List Bucket) → map bucket (map number bs) ≡ bs
numbered [] = refl
numbered (b ∷ bs) = rw (numbered bs)

module _ (l : BucketList) (places : List ℕ) where
  split : laid l places ≡ map number l.whole ++ (map number l.least ++ drop (length (numbers l)) places)
  split = rw (map-append, append_assoc)

  pub listed-laid : listed (laid l places) (counts l).whole (counts l).least ≡ l
  listed-laid =
      let whole : take (length l.whole) (laid l places) ≡ map number l.whole =
      rw split (take_at _ _ _ (length-map l.whole number)) in
      let least : take (length l.least) (drop (length l.whole) (laid l places)) ≡ map number l.least =
      rw (split, drop_at _ _ _ (length-map l.whole number)) (take_at _ _ _ (length-map l.least number)) in
      let w = ap (map bucket) whole ∙ numbered l.whole in
      let s = ap (map bucket) least ∙ numbered l.least in
      λ i. record { whole = w i; least = s i }

  covered : length (numbers l) ≡ (counts l).whole + (counts l).least
  covered = length-map (l.whole ++ l.least) number ∙ length-append l.whole l.least

  -- a list with no number outside is not refused
  pub laid-passes :
      (h z tree words : ℕ) → tree_in h z ≡ true → tree ≡ tree_words h z → any_outside h (numbers l) ≡ false
      → words_covered z (counts l).whole (counts l).least ≤ words
      → first_given (copy_table h z tree (laid l places) (counts l).whole (counts l).least words) ≡ 0
  laid-passes h z tree words sizes whole-tree inside room =
      passes-copy h z tree (laid l places) (counts l).whole (counts l).least words
      (record {
        passes = record { sizes = sizes; whole-tree = whole-tree };
        counted = omega (arith, length-append (numbers l) (drop (length (numbers l)) places), covered);
        room = room;
        inside = rw (take_at (numbers l) _ _ covered) inside;
      })

-- ---- no number of begin's lists is outside
inside-append :
    (h : ℕ) (xs ys : List ℕ) → any_outside h xs ≡ false → any_outside h ys ≡ false → any_outside h (xs ++ ys) ≡ false
unfolding any_outside
inside-append h [] ys e f = f
inside-append h (x ∷ xs) ys e f =
    let n = (neither (outside h x) _).0 e in
    rw n.0 (inside-append h xs ys n.1 f)

-- some levels of a path, or their siblings
module _ (h : ℕ) (f : ℕ → ℕ) (ok : (d : ℕ) → 1 ≤ d → d ≤ h → (2 ≤ f d) × (f d < 2 * leaves_of h)) where
  levels-inside : (d n : ℕ) → 1 ≤ d → d + n ≤ suc h → any_outside h (map f (up_from d n)) ≡ false
  unfolding any_outside up_from
  levels-inside d zero l m = refl
  levels-inside d (suc n) l m =
      let r = ok d l (omega arith) in
      rw (not-outside h (f d) r.0 r.1) (levels-inside (suc d) n (omega arith) (omega arith))

module _ (h : ℕ) (q : Leaf) (leaf : q.0 < leaves_of h) (d : ℕ) (below : 1 ≤ d) (within : d ≤ suc h) where
  path_inside : any_outside h (map number (path h q d)) ≡ false
  path_inside =
      rw (← path-named)
      (levels-inside h (λ e. number (path_bucket h q e)) (path-in-tree h q leaf) d (suc h - d) below (omega arith))

  siblings-inside : any_outside h (map number (map sibling_of (path h q d))) ≡ false
  siblings-inside =
      rw (← siblings-named)
      (levels-inside h (λ e. number (sibling_of (path_bucket h q e))) (sibling-in-tree h q leaf) d (suc h - d) below (omega arith))

pub path-list-inside : (h : ℕ) (q : Leaf) → q.0 < leaves_of h → any_outside h (numbers (path_list h q)) ≡ false
unfolding path_list
path-list-inside h q leaf =
    rw map-append
    (inside-append h _ _ (path_inside h q leaf 1 (omega arith) (omega arith)) (siblings-inside h q leaf 1 (omega arith) (omega arith)))

pub pair-list-inside :
    (h : ℕ) (first second : Leaf) → 1 ≤ h → first.0 < leaves_of h → second.0 < leaves_of h
    → any_outside h (numbers (pair_list h first second)) ≡ false
unfolding pair_list
pair-list-inside h first second some lf ls =
    rw (map-append, map-append, map-append)
    (inside-append h _ _
    (inside-append h _ _ (path_inside h first lf 1 (omega arith) (omega arith)) (path_inside h second ls 1 (omega arith) (omega arith)))
    (inside-append h _ _ (siblings-inside h first lf 2 (omega arith) (omega arith)) (siblings-inside h second ls 2 (omega arith) (omega arith))))

-- ---- begin's lists name no whole bucket twice
module _ (f : ℕ → Bucket) where
  levels-distinct :
      (h : ℕ) → ((d e : ℕ) → d < e → e ≤ h → number (f d) < number (f e)) → (d n : ℕ) → d + n ≤ suc h
      → Distinct (map f (up_from d n))
  unfolding up_from
  levels-distinct h up d zero l = none
  levels-distinct h up d (suc n) l =
      more (λ m. let a = at_level f (suc d) n (f d) m in
      omega (arith, up d a.0 a.1 (omega arith), ap number a.3))
      (levels-distinct h up (suc d) n (omega arith))

distinct_append :
    {xs : List Bucket} (ys : List Bucket) → Distinct xs → Distinct ys
    → ((b : Bucket) → Memᴰ b xs → Memᴰ b ys → ⊥) → Distinct (xs ++ ys)
distinct_append ys none e other = e
distinct_append ys (more {b} {bs} f d) e other =
    more (λ m. ⊎_elim f (other b (Memᴰ.head refl)) (Memᴰ.append_cases bs m))
    (distinct_append ys d e (λ c m. other c (Memᴰ.tail m)))

pub path-distinct : (h : ℕ) (q : Leaf) → q.0 < leaves_of h → Distinct (path_list h q).whole
unfolding path_list path
path-distinct h q leaf =
    levels-distinct (path_bucket h q) h (levels-apart h q q leaf leaf) 1 (suc h - 1) (omega arith)

pub pair-distinct :
    (h : ℕ) (first second : Leaf) → first.0 < leaves_of h / 2 → leaves_of h / 2 ≤ second.0 → second.0 < leaves_of h
    → Distinct (pair_list h first second).whole
unfolding pair_list path_list path
pair-distinct h first second lf ls inside =
    distinct_append _ (path-distinct h first (omega arith)) (path-distinct h second inside)
    (λ b m n.
    let i = at_level (path_bucket h first) 1 (suc h - 1) b m in
    let j = at_level (path_bucket h second) 1 (suc h - 1) b n in
    pair-apart h first second lf ls inside i.0 j.0 i.1 (omega arith) j.1 (omega arith)
    (sym (ap number i.3) ∙ ap number j.3))
