-- The refusals: what each test of the tables tells, and what stands fast where none applies. Assumes nothing.
use Prim.Native.Nat.{ℕ, ◌+◌, ◌*◌, ◌-◌, ◌≤◌, ◌<◌}
use mathlib.Core.Bool.{true, false, ◌||◌}
use mathlib.Core.List.{List, [], ◌∷◌, ◌++◌}
use mathlib.Core.Path.{◌≡◌, refl, sym, ◌∙◌}
use native.Mathlib.Omega.{arith}
use lib.Dec.{ltb, leb}
use lib.ListN.{length, take}
use lib.Pow.{pow_pos}
use borrow.Author.Tests.{ltb-true, ltb-false, leb-true, leb-false, lt-ltb, le-ltb, le-leb, lt-leb, eqb-true, eq-eqb, not-false}
use Rattle.std.specs.List.{list_any}
use Rattle.path.specs.Sizes.{between, leaves_of, tree_in}
use Rattle.path.specs.Layout.{tree_words}
use Rattle.path.proofs.SizesLaws.{between-true}
use Rattle.refusal.specs.Refusal.{Refusal, first_given}
use Rattle.refusal.proofs.RefusalLaws.{none, next, Numbered, first-append, or-first, none-given}
use Rattle.rack.specs.Answers.{bad_size, other_tree, over_counted, words_covered, few_words, outside, any_outside, fill_table, copy_table}

-- ---- numbers outside the tree
module _ (h n : ℕ) where
  pub low-outside : n < 2 → outside h n ≡ true
  unfolding between
  low-outside l = rw (lt-leb 2 n l)

  pub high-outside : 2 * leaves_of h ≤ n → outside h n ≡ true
  unfolding between
  high-outside l =
      let some = pow_pos h in
      rw (le-leb 2 n (omega arith), lt-leb n (2 * leaves_of h - 1) (omega arith))

  pub not-outside : 2 ≤ n → n < 2 * leaves_of h → outside h n ≡ false
  unfolding between
  not-outside l m = rw (le-leb 2 n l, le-leb n (2 * leaves_of h - 1) (omega arith))

  pub inside : outside h n ≡ false → (2 ≤ n) × (n < 2 * leaves_of h)
  inside e =
      let b = between-true 2 (2 * leaves_of h - 1) n (not-false _ e) in
      let some = pow_pos h in
      (b.0, omega arith)

  tested : (ltb n 2 || leb (2 * leaves_of h) n) ≡ outside h n
  tested = (elim (ltb n 2) as (λ t. ltb n 2 ≡ t → (t || leb (2 * leaves_of h) n) ≡ outside h n) [
    | true ↦ λ e. sym (low-outside (ltb-true n 2 e))
    | false ↦ λ e. (elim (leb (2 * leaves_of h) n) as (λ t. leb (2 * leaves_of h) n ≡ t → t ≡ outside h n) [
      | true ↦ λ f. sym (high-outside (leb-true (2 * leaves_of h) n f))
      | false ↦ λ f. sym (not-outside (ltb-false n 2 e) (leb-false (2 * leaves_of h) n f))
    ]) refl
  ]) refl

-- the test of the code
pub any-listed : (h : ℕ) (ns : List ℕ) → list_any (λ n. ltb n 2 || leb (2 * leaves_of h) n) ns ≡ any_outside h ns
unfolding any_outside
any-listed h [] = refl
any-listed h (n ∷ ns) = rw (tested h n, any-listed h ns)

-- ---- no refusal
pub record TreePasses (h z tree : ℕ) : Type 0 where
  pub sizes : tree_in h z ≡ true
  pub whole-tree : tree ≡ tree_words h z

pub record CopyPasses (h z tree : ℕ) (list : List ℕ) (whole least words : ℕ) : Type 0 where
  pub passes : TreePasses h z tree
  pub counted : whole + least ≤ length list
  pub room : words_covered z whole least ≤ words
  pub inside : any_outside h (take (whole + least) list) ≡ false

module _ (h z tree : ℕ) where
  tree-passes : bad_size h z ≡ false → other_tree h z tree ≡ false → TreePasses h z tree
  tree-passes s t = record { sizes = not-false _ s; whole-tree = eqb-true _ _ (not-false _ t) }

  pub fill-passes : first_given (fill_table h z tree) ≡ 0 → TreePasses h z tree
  fill-passes e =
      let (s, e₁) = none-given 1 (bad_size h z) _ (omega arith) e in
      let (t, e₂) = none-given 11 (other_tree h z tree) _ (omega arith) e₁ in
      tree-passes s t

  module _ (list : List ℕ) (whole least words : ℕ) where
    pub copy-passes :
        first_given (copy_table h z tree list whole least words) ≡ 0 → CopyPasses h z tree list whole least words
    copy-passes e =
        let (s, e₁) = none-given 1 (bad_size h z) _ (omega arith) e in
        let (t, e₂) = none-given 11 (other_tree h z tree) _ (omega arith) e₁ in
        let (c, e₃) = none-given 11 (over_counted list whole least) _ (omega arith) e₂ in
        let (f, e₄) = none-given 11 (few_words z whole least words) _ (omega arith) e₃ in
        let (o, e₅) = none-given 14 (any_outside h (take (whole + least) list)) _ (omega arith) e₄ in
        record {
          passes = tree-passes s t;
          counted = ltb-false _ _ c;
          room = ltb-false _ _ f;
          inside = o;
        }

    pub passes-copy :
        CopyPasses h z tree list whole least words → first_given (copy_table h z tree list whole least words) ≡ 0
    unfolding first_given
    passes-copy p =
        rw (
          p.passes.sizes,
          eq-eqb tree (tree_words h z) p.passes.whole-tree,
          le-ltb (length list) (whole + least) p.counted,
          le-ltb words (words_covered z whole least) p.room,
          p.inside,
        )

-- ---- the first refusal: the tree's, which fill has too
pub tree-first :
    (h z tree : ℕ) (rest : List Refusal) (n : ℕ) → (n ≡ 0 → ⊥) → n ≡ first_given (fill_table h z tree)
    → n ≡ first_given (fill_table h z tree ++ rest)
tree-first h z tree rest n some e =
    let rows : Numbered (fill_table h z tree) = next 1 (omega arith) (next 11 (omega arith) none) in
    e ∙ sym (first-append rest rows ∙ or-first _ _ (λ f. some (e ∙ f)))

-- ---- the first refusal, where the tree is as it should be
module _ {h z tree : ℕ} (p : TreePasses h z tree) (list : List ℕ) (whole least words : ℕ) where
  pub refuses-counts : length list < whole + least → 11 ≡ first_given (copy_table h z tree list whole least words)
  unfolding first_given
  refuses-counts l =
      rw (
        p.sizes,
        eq-eqb tree (tree_words h z) p.whole-tree,
        lt-ltb (length list) (whole + least) l,
      )

  module _ (counted : whole + least ≤ length list) where
    pub refuses-words :
        few_words z whole least words ≡ true → 11 ≡ first_given (copy_table h z tree list whole least words)
    unfolding first_given
    refuses-words f =
        rw (
          p.sizes,
          eq-eqb tree (tree_words h z) p.whole-tree,
          le-ltb (length list) (whole + least) counted,
          f,
        )

    pub refuses-buckets :
        few_words z whole least words ≡ false → any_outside h (take (whole + least) list) ≡ true
        → 14 ≡ first_given (copy_table h z tree list whole least words)
    unfolding first_given
    refuses-buckets f o =
        rw (
          p.sizes,
          eq-eqb tree (tree_words h z) p.whole-tree,
          le-ltb (length list) (whole + least) counted,
          f,
          o,
        )
