-- Which requests a card takes that has the sizes and counts of another, and which answers say that an event was found.
-- Assumes nothing.
use Prim.Native.Nat.{ℕ, ◌/◌, ◌<◌}
use mathlib.Core.Bool.{Bool, true, false, cond}
use mathlib.Core.Logic.{◌⊎◌, inl, inr}
use mathlib.Core.Path.{◌≡◌, refl, sym, ap, ◌∙◌}
use native.Mathlib.Omega.{arith}
use borrow.Author.Tests.{ne_eqb, lt-leb, le-ltb}
use Rattle.record.specs.declared.Leaf.{Leaf}
use Rattle.record.specs.declared.Stamp.{Stamp}
use Rattle.record.specs.Standing.{dummy_key, rule_for}
use Rattle.record.proofs.StandingLaws.{below-known}
use Rattle.path.specs.Sizes.{leaves_of}
use Rattle.refusal.specs.Refusal.{first_given}
use Rattle.root.specs.Root.{root_full}
use Rattle.card.specs.declared.Card.{Card}
use Rattle.request.specs.declared.Request.{Request}
use Rattle.request.specs.declared.Request.TheVariants.{Insert, Extract, Delete}
use Rattle.answers.specs.declared.Answer.{Answer}
use Rattle.answers.specs.declared.Answer.TheVariants.{Started, Listed, Least, Withdrawn, Inserted, Extracted, Deleted, Refused}
use Rattle.parts.specs.declared.Parts.{Parts}
use Rattle.request.specs.Tables.{insert_rows, extract_rows, delete_rows, request_rows}
use Rattle.card.specs.Tables.{parts_of, request_table}
use Rattle.card.proofs.BeginLaws.{insertable, deletable}
use Rattle.demands.specs.Queue.{Reply, referred, told, was_found, silent}
use Rattle.demands.specs.Says.{says}
use Rattle.deals.specs.Sequences.{well}

-- ---- another card of these sizes and counts
module _ (k m : Card) (sizes : m.sizes ≡ k.sizes) (time : m.t ≡ k.t) (count : m.c ≡ k.c) where
  abbrev parts_at : 𝕀 → Parts
  parts_at i = record { sizes = sizes i; t = time i; c = count i; least = m.least }

  -- its table is the one of the first with its own root: no row asks for the least record
  as_first : (w : Request) → first_given (request_table m w) ≡ first_given (request_rows (parts_of k) m.root w)
  unfolding request_rows insert_rows extract_rows delete_rows
  as_first (Insert key value label first second) = λ i. first_given (insert_rows (parts_at i) m.root key label first second)
  as_first Extract = λ i. first_given (extract_rows (parts_at i))
  as_first (Delete label stamp) = λ i. first_given (delete_rows (parts_at i) label stamp)

  -- an Insert with another key and label, both proper, is taken or overflows
  pub insert-again :
      (key value : ℕ) (label first second : Leaf) (key' value' : ℕ) (label' : Leaf) → first_given (request_table k (Insert key value label first second)) ≡ 0
      → key' < dummy_key → label'.0 < leaves_of k.sizes.h
      → (first_given (request_table m (Insert key' value' label' first second)) ≡ 0) ⊎ (first_given (request_table m (Insert key' value' label' first second)) ≡ 10)
  unfolding request_rows insert_rows first_given
  insert-again key value label first second key' value' label' e proper below =
      let a = insertable k key value label first second e in
      let n = leaves_of k.sizes.h in
      rw (as_first (Insert key' value' label' first second))
      (rw (
        ne_eqb k.t k.sizes.t a.time,
        ne_eqb key' dummy_key (λ x. omega arith),
        lt-leb n label'.0 below,
        lt-leb (n / 2) first.0 a.first,
        le-ltb second.0 (n / 2) a.second.0,
        lt-leb n second.0 a.second.1,
        ne_eqb k.c n a.space,
      )
      (elim (root_full k.sizes.r m.root) as (λ b. (◌≡◌ {A = ℕ} (cond b 10 0) 0) ⊎ (◌≡◌ {A = ℕ} (cond b 10 0) 10)) [ true ↦ inr refl | false ↦ inl refl ]))

  pub extract-again : first_given (request_table k Extract) ≡ 0 → first_given (request_table m Extract) ≡ 0
  unfolding request_rows
  extract-again e = as_first Extract ∙ e

  pub delete-again :
      (label label' : Leaf) (stamp stamp' : Stamp) → first_given (request_table k (Delete label stamp)) ≡ 0 → label'.0 < leaves_of k.sizes.h
      → stamp'.0 < k.t → first_given (request_table m (Delete label' stamp')) ≡ 0
  unfolding request_rows delete_rows first_given
  delete-again label label' stamp stamp' e below earlier =
      let a = deletable k label stamp e in
      rw (as_first (Delete label' stamp'))
      (rw (ne_eqb k.t k.sizes.t a.time, lt-leb (leaves_of k.sizes.h) label'.0 below, below-known (rule_for (leaves_of k.sizes.h) k.t) stamp' earlier))

-- ---- answers and what they say
abbrev pub spoken : Reply → Bool
spoken (referred r) = true
spoken (told o) = true
spoken (was_found b) = b
spoken silent = false

pub spoken-well : (a : Answer) → spoken (says a) ≡ true → well a ≡ true
spoken-well Started e = refl
spoken-well (Listed n) e = refl
spoken-well (Least r words) e = refl
spoken-well Withdrawn e = e
spoken-well (Inserted label stamp words) e = refl
spoken-well (Extracted r words) e = refl
spoken-well (Deleted found words) e = e
spoken-well (Refused number) e = e

abbrev heard : Reply → Bool
heard (referred r) = true
heard (told o) = true
heard (was_found b) = b
heard silent = true

well-heard : (a : Answer) → well a ≡ true → heard (says a) ≡ true
well-heard Started e = refl
well-heard (Listed n) e = refl
well-heard (Least r words) e = refl
well-heard Withdrawn e = refl
well-heard (Inserted label stamp words) e = refl
well-heard (Extracted r words) e = refl
well-heard (Deleted found words) e = e
well-heard (Refused number) e = refl

-- a Delete that is well found its event
pub well-found : (a : Answer) (b : Bool) → well a ≡ true → says a ≡ was_found b → b ≡ true
well-found a b e s = sym (ap heard s) ∙ well-heard a e
