-- An Insert on the Tree, as finish works it out: the first path's buckets do not hang on the sibling at level 1, which is
-- not fetched, and the second path finds what the first left. Assumes nothing.
use Prim.Native.Nat.{ℕ, zero, suc, ◌≤◌}
use mathlib.Core.List.{List, ◌++◌}
use mathlib.Core.Path.{◌≡◌, refl, sym, ap, ◌∙◌}
use native.Mathlib.Decide.{dec_le}
use native.Mathlib.Omega.{arith}
use borrow.Author.Tests.{ne_eqb}
use Rattle.record.specs.declared.Leaf.{Leaf}
use Rattle.record.specs.declared.Bucket.{Bucket}
use Rattle.record.specs.declared.Record.{Record}
use Rattle.record.specs.declared.Rule.{Rule}
use Rattle.path.specs.declared.sizes.Sizes.{Sizes}
use Rattle.path.specs.Path.{path_bucket}
use Rattle.path.specs.Layout.{Contents}
use Rattle.path.proofs.PathLaws.{path-root}
use Rattle.least.specs.Least.{slots_at, root_slots}
use Rattle.work.specs.PathWork.{evicted, path_buckets, least_after}
use Rattle.pair.specs.PairWork.{seated, first_after, second_after, top_first, second_beside}
use Rattle.work.proofs.BesideLaws.{kids-same, top-same, mended-same}
use Rattle.tree.specs.Tree.{Tree, way_of, slots_on, beside_of}
use Rattle.tree.specs.Work.{after_first}
use Rattle.tree.proofs.ShownLaws.{below_of, way-below}
use Rattle.tree.proofs.WorkLaws.{bucket_after, worked-lays}
use Rattle.tree.proofs.HalvesLaws.{Halves, first-inside, second-sibling, second-off, second-sibling-off}
use Rattle.tree.proofs.PathLaws.{Lays}
use Rattle.tree.proofs.JoinLaws.{level_of}

-- ---- the second path after the first
module _ (rule : Rule) (s : Sizes) (first second : Leaf) (p : Halves s.h first second) (new : Record) (T : Tree) (b₁ b₂ : ℕ → Record)
    (same₁ : (d : ℕ) → 2 ≤ d → d ≤ s.h → b₁ d ≡ beside_of s.h first T d)
    (same₂ : (d : ℕ) → 2 ≤ d → d ≤ s.h → b₂ d ≡ beside_of s.h second T d) where
  abbrev way : List Record
  way = way_of s.h first T

  abbrev slots₂ : List Record
  slots₂ = below_of s.h second T s.h

  abbrev seat : List Record
  seat = seated s.r new way

  abbrev T₁ : Tree
  T₁ = after_first rule s first new T

  abbrev own₁ : ℕ → Record
  own₁ = beside_of s.h first T

  lays : Lays s.h first (bucket_after rule s first own₁ (evicted s first seat)) T T₁
  lays = worked-lays rule s first (first-inside s.h first second p) seat T

  abbrev after₁ : List Record
  after₁ = first_after s first new way

  abbrev after₂ : List Record
  after₂ = second_after s first second new way slots₂

  pub first-buckets : path_buckets rule s first b₁ after₁ ≡ path_buckets rule s first own₁ after₁
  unfolding path_buckets
  first-buckets = mended-same rule s.h first (slots_at s.r s.z after₁) b₁ own₁ 2 same₁ (omega arith)

  -- the second way: what the first left in the root, and slots that it did not touch
  root-left : slots_on s.h second T₁ 0 ≡ root_slots s.r after₁
  unfolding level_of
  root-left =
      ap (λ (b : Bucket). (T₁ b).slots) (path-root s.h second p.most ∙ sym (path-root s.h first (first-inside s.h first second p)))
      ∙ ap (λ (c : Contents). c.slots) (lays.on 0 (omega arith))

  below-kept : (d : ℕ) → d ≤ s.h → below_of s.h second T₁ d ≡ below_of s.h second T d
  unfolding below_of
  below-kept zero l = refl
  below-kept (suc d) l =
      ap (λ (l : List Record). l ++ slots_on s.h second T₁ (suc d)) (below-kept d (omega arith))
      ∙ ap (λ (c : Contents). below_of s.h second T d ++ c.slots)
      (lays.off (path_bucket s.h second (suc d)) (second-off s.h first second p (suc d) (omega arith) l))

  pub second_way : root_slots s.r after₁ ++ slots₂ ≡ way_of s.h second T₁
  second_way = sym (way-below s.h second T₁ ∙ rw (root-left, below-kept s.h (omega arith)))

  -- the siblings beside it
  top_left : top_first rule s first b₁ after₁ ≡ beside_of s.h second T₁ 1
  unfolding level_of
  top_left =
      top-same rule s.h first (slots_at s.r s.z after₁) b₁ own₁ 2 same₁ (omega arith) p.high
      ∙ ap (λ (c : Contents). c.least) (sym (lays.on 1 p.high))
      ∙ ap (λ (b : Bucket). (T₁ b).least) (sym (second-sibling s.h first second p))

  pub second-beside : (d : ℕ) → 1 ≤ d → d ≤ s.h → second_beside rule s first b₁ after₁ b₂ d ≡ beside_of s.h second T₁ d
  second-beside d l m = elim (dec_le 2 d) [
    | yes h ↦
        rw (ne_eqb d 1 (omega arith))
        (same₂ d h m ∙ sym (ap (λ (c : Contents). c.least) (lays.off _ (second-sibling-off s.h first second p d h m))))
    | no h ↦ let e : d ≡ 1 = omega arith in rw e top_left
  ]

  abbrev left₂ : List Record
  left₂ = evicted s second (way_of s.h second T₁)

  pub second-buckets : path_buckets rule s second (second_beside rule s first b₁ after₁ b₂) after₂ ≡ path_buckets rule s second (beside_of s.h second T₁) left₂
  unfolding path_buckets
  second-buckets =
      rw second_way (mended-same rule s.h second (slots_at s.r s.z left₂) (second_beside rule s first b₁ after₁ b₂)
      (beside_of s.h second T₁) 1 second-beside (omega arith))

  pub second-root :
      root_slots s.r after₂ ≡ root_slots s.r left₂
  second-root = rw second_way

  pub second-least :
      least_after rule s second (second_beside rule s first b₁ after₁ b₂) after₂ ≡ least_after rule s second (beside_of s.h second T₁) left₂
  unfolding least_after
  second-least =
      rw (
        second_way,
        kids-same rule s.h second (slots_at s.r s.z left₂) (second_beside rule s first b₁ after₁ b₂)
            (beside_of s.h second T₁) 1 second-beside s.h (omega arith),
      )
