-- An Insert on words is an Insert on the Tree: its work, done by the definitions that finish cites on what card and fetched
-- words show, then stored by the rack, leaves the Tree that the same work on the Tree's own ways leaves. Assumes nothing.
use Prim.Native.Nat.{ℕ, ◌+◌, ◌*◌, ◌≤◌}
use mathlib.Core.Bool.{Bool, true, false, cond}
use mathlib.Core.List.{List, ◌++◌, map, append_assoc}
use mathlib.Core.Path.{◌≡◌, refl, sym, ap, ◌∙◌}
use native.Mathlib.Omega.{arith}
use lib.Dec.{ltb}
use lib.ListN.{length, take, drop, set, length-append, length-set}
use lib.Seq.{take_at}
use Rattle.record.specs.declared.Leaf.{Leaf}
use Rattle.record.specs.declared.Record.{Record}
use Rattle.record.specs.declared.Rule.{Rule}
use Rattle.record.specs.Standing.{is_dummy}
use Rattle.path.specs.declared.sizes.Sizes.{Sizes}
use Rattle.path.specs.Path.{path_bucket, up_from}
use Rattle.path.specs.Layout.{Contents, tree_words}
use Rattle.lists.specs.BucketList.{pair_list}
use Rattle.way.specs.Evict.{seek}
use Rattle.least.specs.Least.{slots_at, root_slots, mended_at}
use Rattle.gather.specs.Shown.{slots_shown, way_shown}
use Rattle.gather.proofs.ShownLaws.{way-length, slots_length}
use Rattle.mend.specs.Mended.{path_words}
use Rattle.work.specs.PathWork.{evicted, path_buckets, least_after}
use Rattle.pair.specs.PairWork.{seated, first_after, second_after, second_beside, first_siblings, second_siblings}
use Rattle.work.specs.RemovalWork.{rooted}
use Rattle.copies.specs.Copy.{fetched, stored}
use Rattle.mend.proofs.PartLaws.{path-words-append}
use Rattle.tree.specs.Tree.{Tree, Alike, way_of, beside_of, contents, tree_of}
use Rattle.tree.specs.Work.{worked, after_first, inserted}
use Rattle.tree.proofs.PathLaws.{laid_root, laid_on, laid-off}
use Rattle.tree.proofs.FetchLaws.{fetched-long}
use Rattle.tree.proofs.Removal.{slots-after-length, root-after-length}
use Rattle.tree.proofs.HalvesLaws.{Halves, first-inside, first_off}
use Rattle.tree.proofs.PairWork.{first-buckets, second_way, second-buckets, second-root, second-least}
use Rattle.tree.proofs.PairFetch.{pair-wholes, pair-leasts, pair-whole-count, pair-way, pair-slots, first-beside, second-beside}
use Rattle.tree.proofs.PairStore.{pair-stored, pair-stored-length}
use Rattle.tree.proofs.ShownLaws.{below_of}

pub seated-length : (r : ℕ) (new : Record) (w : List Record) → length (seated r new w) ≡ length w
unfolding seated
seated-length r new w = if-room (ltb (seek is_dummy r w) r)
  where
    if-room : (b : Bool) → length (cond b (set w (seek is_dummy r w) new) w) ≡ length w
    if-room true = length-set w (seek is_dummy r w) new
    if-room false = refl

module _ (rule : Rule) (s : Sizes) (first second : Leaf) (p : Halves s.h first second) (new : Record) (places : List Record)
    (full : s.r ≤ length places) (least : Record) (tree words : List ℕ) (size : length tree ≡ tree_words s.h s.z) where
  abbrev T : Tree
  T = tree_of s.z (take s.r places) least tree

  abbrev ws : List ℕ
  ws = fetched s.z tree (pair_list s.h first second) words

  abbrev way : List Record
  way = way_shown s.h s.z s.r places ws 0

  abbrev slots₂ : List Record
  slots₂ = slots_shown s.z ws s.h s.h

  abbrev b₁ : ℕ → Record
  b₁ = first_siblings s ws

  abbrev b₂ : ℕ → Record
  b₂ = second_siblings s ws

  way-is : way ≡ way_of s.h first T
  way-is = pair-way s.h s.z s.r first second p places least tree words size

  slots-are : slots₂ ≡ below_of s.h second T s.h
  slots-are = pair-slots s.h s.z s.r first second p places least tree words size

  same₁ : (d : ℕ) → 2 ≤ d → d ≤ s.h → b₁ d ≡ beside_of s.h first T d
  same₁ = first-beside s.h s.z s.r first second p places least tree words size

  same₂ : (d : ℕ) → 2 ≤ d → d ≤ s.h → b₂ d ≡ beside_of s.h second T d
  same₂ = second-beside s.h s.z s.r first second p places least tree words size

  given : 4 * ((s.h + s.h) * (s.z + 1)) ≤ length ws
  given =
      let all = fetched-long s.z tree (pair_list s.h first second) words (pair-wholes s.h s.z first second p tree size)
      (pair-leasts s.h s.z first second p tree size) in
      let some = rw (pair-whole-count s.h s.z first second p tree size) at all in
      omega (arith, some)

  pub first-way-length : length (way_of s.h first (tree_of s.z (take s.r places) least tree)) ≡ s.r + s.z * s.h
  first-way-length = ap length (sym way-is) ∙ way-length s.h s.z s.r places ws 0 full (omega (arith, given))

  abbrev seat : List Record
  seat = seated s.r new (way_of s.h first T)

  abbrev T₁ : Tree
  T₁ = after_first rule s first new T

  abbrev own₁ : ℕ → Record
  own₁ = beside_of s.h first T

  abbrev own₂ : ℕ → Record
  own₂ = beside_of s.h second T₁

  abbrev way₂ : List Record
  way₂ = way_of s.h second T₁

  -- both ways once they are evicted: as the words show them, and the second as the Tree has it
  abbrev after₁ : List Record
  after₁ = first_after s first new way

  abbrev after₂ : List Record
  after₂ = second_after s first second new way slots₂

  abbrev left₂ : List Record
  left₂ = evicted s second way₂

  abbrev buckets : List Contents
  buckets = path_buckets rule s first b₁ after₁ ++ path_buckets rule s second (second_beside rule s first b₁ after₁ b₂) after₂

  seat-length : length seat ≡ s.r + s.z * s.h
  seat-length = seated-length s.r new (way_of s.h first T) ∙ first-way-length

  way₂-length : length way₂ ≡ s.r + s.z * s.h
  way₂-length =
      let n = root-after-length s first seat seat-length in
      let m = ap length (sym slots-are) ∙ slots_length s.z ws s.h s.h given in
      ap length (sym (second_way rule s first second p new T b₁ b₂ same₁ same₂))
      ∙ length-append (root_slots s.r (evicted s first seat)) (below_of s.h second T s.h) ∙ omega (arith, n, m)

  -- what each path's buckets become
  abbrev f : ℕ → Contents
  f = mended_at rule s.h first (slots_at s.r s.z (evicted s first seat)) own₁

  abbrev g : ℕ → Contents
  g = mended_at rule s.h second (slots_at s.r s.z left₂) own₂

  abbrev top : Contents
  top = contents (least_after rule s second own₂ left₂) (root_slots s.r left₂)

  stored-both : (more : List ℕ)
      → Alike s.h (tree_of s.z (root_slots s.r left₂) (least_after rule s second own₂ left₂)
      (stored s.z (pair_list s.h first second).whole
      (path_words (map f (up_from 1 s.h)) ++ (path_words (map g (up_from 1 s.h)) ++ more)) tree))
      (inserted rule s first second new T)
  unfolding worked path_buckets
  stored-both more =
      let in₁ = first-inside s.h first second p in
      pair-stored s.h s.z first second p tree size f g
      (λ d l m. slots-after-length s first seat seat-length d l (omega arith))
      (λ d l m. slots-after-length s second way₂ way₂-length d l (omega arith)) more (take s.r places) _ least _
      (inserted rule s first second new T) (laid_root s.h second p.most g top T₁)
      (λ d l m. laid-off s.h second p.most g top T₁ (path_bucket s.h first d) (first_off s.h first second p d l m)
      ∙ laid_on s.h first in₁ f _ T d l m)
      (λ d l m. laid_on s.h second p.most g top T₁ d l m)
      (λ b o₁ o₂. laid-off s.h second p.most g top T₁ b o₂ ∙ laid-off s.h first in₁ f _ T b o₁)

  -- the words that finish leaves, stored: behind both paths' buckets any words may stand
  pub insertion-stored : (more : List ℕ)
      → Alike s.h
      (tree_of s.z (take s.r (rooted s.r (root_slots s.r after₂) places))
      (least_after rule s second (second_beside rule s first b₁ after₁ b₂) after₂)
      (stored s.z (pair_list s.h first second).whole (path_words buckets ++ more) tree))
      (inserted rule s first second new T)
  unfolding path_buckets
  insertion-stored more =
      let n = root-after-length s second way₂ way₂-length in
      rw (
        way-is,
        slots-are,
        first-buckets rule s first second p new T b₁ b₂ same₁ same₂,
        second-buckets rule s first second p new T b₁ b₂ same₁ same₂,
        second-root rule s first second p new T b₁ b₂ same₁ same₂,
        second-least rule s first second p new T b₁ b₂ same₁ same₂,
        take_at _ (drop s.r places) s.r n,
        path-words-append (map f (up_from 1 s.h)) (map g (up_from 1 s.h)),
        append_assoc (path_words (map f (up_from 1 s.h))) _ more,
      )
      (stored-both more)

  pub insertion-stored-length : (more : List ℕ)
      → length (stored s.z (pair_list s.h first second).whole (path_words buckets ++ more) tree)
      ≡ tree_words s.h s.z
  unfolding path_buckets
  insertion-stored-length more =
      rw (
        way-is,
        slots-are,
        first-buckets rule s first second p new T b₁ b₂ same₁ same₂,
        second-buckets rule s first second p new T b₁ b₂ same₁ same₂,
        path-words-append (map f (up_from 1 s.h)) (map g (up_from 1 s.h)),
        append_assoc (path_words (map f (up_from 1 s.h))) _ more,
      )
      (pair-stored-length s.h s.z first second p tree size f g
      (λ d l m. slots-after-length s first seat seat-length d l (omega arith))
      (λ d l m. slots-after-length s second way₂ way₂-length d l (omega arith)) more)

  pub last-way-length : length (root_slots s.r after₁ ++ slots₂) ≡ s.r + s.z * s.h
  last-way-length = rw (way-is, slots-are) (ap length (second_way rule s first second p new T b₁ b₂ same₁ same₂) ∙ way₂-length)
