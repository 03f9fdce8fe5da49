-- `size`: refused with 1, too large, or afresh. Assumes nothing.
use Prim.Native.Nat.{ℕ, ◌≤◌, ◌<◌}
use mathlib.Core.Bool.{Bool, true, false, not, or-true}
use mathlib.Core.List.{List, ◌++◌}
use mathlib.Core.Logic.{◌⊎◌, inl, inr}
use mathlib.Core.Path.{◌≡◌, refl, sym, ap, ◌∙◌}
use lib.Dec.{ltb}
use lib.ListN.{length, take, drop}
use lib.Seq.{length-take-le}
use borrow.Author.Tests.{not-true, not-false, lt-ltb, le-ltb, eq-eqb}
use Rattle.std.specs.Prelude.{Result, ⊤}
use Rattle.path.specs.Sizes.{sizes_of, tree_in, in_range}
use Rattle.path.specs.Layout.{tree_words, fresh_tree}
use Rattle.path.proofs.SizesLaws.{tree-range}
use Rattle.refusal.specs.declared.Reason.{Reason}
use Rattle.refusal.specs.Refusal.{first_given}
use Rattle.rack.specs.Answers.{fill_refusal}
use Rattle.rack.specs.Promises.{Fills}
use Rattle.card.specs.declared.Done.{Done}
use Rattle.card.specs.Answers.{refused, or_refused, Answered}
use Rattle.card.specs.Calls.{zero_card, start_table, started}
use Rattle.lines.specs.declared.Line.TheVariants.{Size}
use Rattle.steps.specs.declared.Turn.{Turn}
use Rattle.steps.specs.Step.{Desk, unread, kept, tells, tree_words_used, tree_most, too_large, nothing, fresh, sized_to, step_of, Steps}
use Rattle.steps.proofs.AskedLaws.{steps-as}

module _ (desk : Desk) (h z r t : ℕ) (tree : List ℕ) (done : Done) (a : Answered zero_card (first_given (start_table (sizes_of h z r t))) (started (sizes_of h z r t)) done)
    (b : Bool) (e : b ≡ in_range (sizes_of h z r t)) where
  sized-as : step_of desk (Size h z r t) tree ≡ sized_to desk tree (sizes_of h z r t)
  unfolding step_of
  sized-as = refl

  pub size-refused : (turn : Turn) → not b ≡ true → turn ≡ kept desk done.answer → Steps desk (Size h z r t) tree tree turn
  unfolding sized_to start_table first_given or_refused
  size-refused turn u k =
      let out : in_range (sizes_of h z r t) ≡ false = sym e ∙ not-true b u in
      let own : done ≡ refused zero_card 1 = rw out at a.whole in
      steps-as desk (Size h z r t) tree tree turn _ (sized-as ∙ rw out) (k ∙ ap (λ (x : Done). kept desk x.answer) own) refl

  module _ (u : not b ≡ false) (words : ℕ) (m : words ≡ tree_words_used h z) where
    within : in_range (sizes_of h z r t) ≡ true
    within = sym e ∙ not-false b u

    large : too_large (length tree) (sizes_of h z r t) ≡ true → (turn : Turn) → turn ≡ unread desk → Steps desk (Size h z r t) tree tree turn
    unfolding sized_to
    large l turn k = steps-as desk (Size h z r t) tree tree turn (nothing desk tree) (sized-as ∙ rw (within, l)) k refl

    pub over : (tree_most < words) ⊎ ((words ≤ tree_most) × (length tree < words)) → (turn : Turn) → turn ≡ unread desk
        → Steps desk (Size h z r t) tree tree turn
    over (inl l) = large (rw (← m, lt-ltb tree_most words l))
    over (inr l) = large (rw (← m, lt-ltb (length tree) words l.1) (or-true (ltb tree_most words)))

    module _ (few : words ≤ tree_most) (lent : words ≤ length tree) where
      small : too_large (length tree) (sizes_of h z r t) ≡ false
      small = rw (← m, le-ltb tree_most words few, le-ltb (length tree) words lent)

      range : tree_in h z ≡ true
      range = tree-range (sizes_of h z r t) within

      whole : words ≡ tree_words h z
      unfolding tree_words_used
      whole = m ∙ rw range

      not-refused : fill_refusal h z (take words tree) ≡ 0
      unfolding first_given
      not-refused = rw (range, length-take-le words tree lent, eq-eqb words (tree_words h z) whole)

      begun : done ≡ started (sizes_of h z r t)
      unfolding start_table first_given or_refused
      begun = rw within at a.whole

      pub afresh : (s : Result ⊤ Reason) (part after : List ℕ) → Fills h z (take words tree) s part → after ≡ part ++ drop words tree
          → (turn : Turn) → turn ≡ tells done → Steps desk (Size h z r t) tree after turn
      unfolding sized_to
      afresh s part after f p turn k =
          let due : part ≡ fresh_tree h z = rw not-refused at f.lent in
          steps-as desk (Size h z r t) tree after turn (fresh desk tree (sizes_of h z r t)) (sized-as ∙ rw (within, small)) (k ∙ ap tells begun)
          (p ∙ ap (λ (x : List ℕ). x ++ drop words tree) due ∙ ap (λ (x : ℕ). fresh_tree h z ++ drop x tree) m)
