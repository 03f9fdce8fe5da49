-- Insert's two paths, step by step: the record seated, the first path worked on, the second path's slots and siblings
-- loaded behind what it left, the second path worked on. Assumes nothing.
use Prim.Native.Nat.{ℕ, zero, suc, ◌+◌, ◌*◌, ◌-◌, ◌≤◌}
use mathlib.Core.List.{List, ◌++◌}
use mathlib.Core.Path.{◌≡◌, refl, ap, ◌∙◌}
use native.Mathlib.Decide.{dec_le}
use native.Mathlib.Omega.{arith}
use lib.ListN.{length, get_or, take}
use lib.Seq.{get_or-set_same, get_or-set_other}
use borrow.Author.Tests.{ne_eqb}
use Rattle.record.specs.declared.Leaf.{Leaf}
use Rattle.record.specs.declared.Record.{Record}
use Rattle.record.specs.declared.Rule.{Rule}
use Rattle.record.specs.Standing.{dummy}
use Rattle.record.specs.Words.{records, words_of, record_at, written}
use Rattle.record.proofs.WordsLaws.{records-written, records-count}
use Rattle.path.specs.declared.sizes.Sizes.{Sizes}
use Rattle.path.specs.Layout.{bucket_words}
use Rattle.path.specs.Path.{up_from}
use Rattle.least.specs.Least.{slots_at, root_slots, mended_at, mended}
use Rattle.gather.specs.Laid.{laid_over}
use Rattle.gather.specs.Shown.{siblings_shown, slots_shown, way_shown}
use Rattle.gather.proofs.LaidLaws.{laid-length}
use Rattle.gather.proofs.ShownLaws.{siblings-length}
use Rattle.gather.proofs.LoadedLaws.{path-loaded, sibling-loaded}
use Rattle.mend.specs.Mended.{beside_at, path_words}
use Rattle.work.specs.PathWork.{path_buckets, PathWorked}
use Rattle.pair.specs.PairWork.{seated, first_after, top_first, second_beside, second_siblings, PairWorked}
use Rattle.work.proofs.BesideLaws.{worked_same}

-- a path has a first bucket
pub first-bucket : (h z : ℕ) → 1 ≤ h → 4 ≤ h * bucket_words z
first-bucket zero z l = absurd (omega arith)
first-bucket (suc h) z l = omega arith

-- its first record is the least record of level 1
pub first-top : (rule : Rule) (h : ℕ) (q : Leaf) (slots : ℕ → List Record) (beside : ℕ → Record) → 1 ≤ h
    → record_at (path_words (mended rule h q slots beside)) 0 ≡ (mended_at rule h q slots beside 1).least
unfolding path_words words_of up_from
first-top rule zero q slots beside l = absurd (omega arith)
first-top rule (suc h) q slots beside l = refl

module _ (rule : Rule) (s : Sizes) (first second : Leaf) (new : Record) (w₀ b₀ ws : List ℕ) (some : 1 ≤ s.h) (siblings : 4 * s.h ≤ length b₀) where
  abbrev B₁ : ℕ → Record
  B₁ = beside_at (records b₀)

  abbrev S₂ : List Record
  S₂ = slots_shown s.z ws s.h s.h

  abbrev A₁ : List Record
  A₁ = first_after s first new (records w₀)

  -- the first path's bucket at level 1 is read from its words
  pub top_read : (w₁ w₂ p₁ : List ℕ) (x₁ : Record) → records w₁ ≡ seated s.r new (records w₀)
      → PathWorked rule s first B₁ (records w₁) w₂ p₁ x₁
      → record_at p₁ 0 ≡ top_first rule s first B₁ A₁
  unfolding path_buckets
  top_read w₁ w₂ p₁ x₁ seat one =
      let one' = rw seat at one in
      ap (λ (p : List ℕ). record_at p 0) one'.buckets ∙ first-top rule s.h first (slots_at s.r s.z A₁) B₁ some

  -- the siblings' scratch of the second path
  module _ (b₁ b₂ : List ℕ) (top : Record) (loaded : b₁ ≡ laid_over b₀ 1 (siblings_shown s.z ws (2 * s.h) (s.h - 1) (s.h + 1 - 2)))
      (put : b₂ ≡ written b₁ 0 top) (is : top ≡ top_first rule s first B₁ A₁) where
    long : length b₁ ≡ length b₀
    long =
        let n = siblings-length s.z ws (2 * s.h) (s.h - 1) (s.h + 1 - 2) in
        ap length loaded ∙ laid-length b₀ 1 _ (omega arith)

    at_first : get_or (records b₂) 0 dummy ≡ top
    at_first =
        ap (λ (l : List ℕ). get_or (records l) 0 dummy) put
        ∙ ap (λ (l : List Record). get_or l 0 dummy) (records-written b₁ 0 top (omega (arith, long)))
        ∙ get_or-set_same (records b₁) 0 top dummy (omega (arith, long, records-count b₁))

    at-later : (d : ℕ) → 2 ≤ d → d ≤ s.h → get_or (records b₂) (d - 1) dummy ≡ second_siblings s ws d
    at-later d l m =
        ap (λ (l : List ℕ). get_or (records l) (d - 1) dummy) put
        ∙ ap (λ (l : List Record). get_or l (d - 1) dummy) (records-written b₁ 0 top (omega (arith, long)))
        ∙ get_or-set_other (records b₁) 0 (d - 1) top dummy (omega arith)
        ∙ ap (λ (l : List ℕ). get_or (records l) (d - 1) dummy) loaded
        ∙ sibling-loaded s.h s.z ws (2 * s.h) (s.h - 1) 2 b₀ (omega arith) siblings d l m

    pub second-beside : (d : ℕ) → 1 ≤ d → d ≤ s.h
        → beside_at (records b₂) d ≡ second_beside rule s first B₁ A₁ (second_siblings s ws) d
    second-beside d l m = elim (dec_le 2 d) [
      | yes h ↦ at-later d h m ∙ rw (ne_eqb d 1 (omega arith))
      | no h ↦ let e : d ≡ 1 = omega arith in rw e (at_first ∙ is)
    ]

    -- the two paths, one after the other
    pub pair-worked :
        (w₁ w₂ w₃ w₄ p₁ p₂ : List ℕ) (x₁ x : Record) → length w₂ ≡ 4 * (s.r + s.z * s.h)
        → 4 * ((s.h + s.h) * (s.z + 1)) ≤ length ws
        → records w₁ ≡ seated s.r new (records w₀) → PathWorked rule s first B₁ (records w₁) w₂ p₁ x₁
        → w₃ ≡ laid_over w₂ s.r S₂ → PathWorked rule s second (beside_at (records b₂)) (records w₃) w₄ p₂ x
        → PairWorked rule s first second new B₁ (second_siblings s ws) (records w₀) S₂ w₄ p₁ p₂ x
    unfolding way_shown
    pair-worked w₁ w₂ w₃ w₄ p₁ p₂ x₁ x l given seat one load two =
        let one' = rw seat at one in
        let shown : records w₃ ≡ root_slots s.r A₁ ++ S₂ =
        ap records load
        ∙ path-loaded s.h s.z s.r ws s.h given w₂ l
        ∙ ap (λ (v : List Record). take s.r v ++ S₂) one'.after in
        let two' = worked_same rule s second _ _ _ w₄ p₂ x second-beside (rw shown at two) in
        record { after = two'.after; first_words = one'.buckets; second_words = two'.buckets; least = two'.least }
