-- The numbers that a request's table can give: 4 to 9, and 10 where fewer than N are live and the root is full. Assumes nothing.
use Prim.Native.Nat.{ℕ, ◌≤◌}
use mathlib.Core.Bool.{true}
use mathlib.Core.List.{List, [], ◌∷◌}
use mathlib.Core.Logic.{inl, inr}
use mathlib.Core.Path.{◌≡◌}
use mathlib.Mathlib.Data.Bool.Basic.{dichotomy}
use native.Mathlib.Omega.{arith}
use lib.Dec.{eqb}
use borrow.Author.Tests.{eqb-false}
use Rattle.record.specs.declared.Record.{Record}
use Rattle.path.specs.Sizes.{leaves_of}
use Rattle.refusal.specs.Refusal.{row}
use Rattle.parts.specs.declared.Parts.{Parts}
use Rattle.root.specs.Root.{root_full}
use Rattle.refusal.proofs.RefusalLaws.{Rows, none, next, past, stop, Numbered}
use Rattle.request.specs.declared.Request.{Request}
use Rattle.request.specs.declared.Request.TheVariants.{Insert, Extract, Delete}
use Rattle.request.specs.Tables.{insert_rows, extract_rows, delete_rows, request_rows}

module _ (p : Parts) (root : List Record) where
  module _ (P : ℕ → Type 0) (low : (n : ℕ) → 4 ≤ n → n ≤ 9 → P n)
      (over : (p.c ≡ leaves_of p.sizes.h → ⊥) → root_full p.sizes.r root ≡ true → P 10) where
    root-rows : (p.c ≡ leaves_of p.sizes.h → ⊥) → Rows P (row 10 (root_full p.sizes.r root) ∷ [])
    root-rows f = elim (dichotomy (root_full p.sizes.r root)) [
      | inr e ↦ next 10 (over f e) none
      | inl g ↦ past 10 g none
    ]

    full-rows : Rows P (row 9 (eqb p.c (leaves_of p.sizes.h)) ∷ row 10 (root_full p.sizes.r root) ∷ [])
    full-rows = elim (dichotomy (eqb p.c (leaves_of p.sizes.h))) [
      | inr e ↦ stop 9 e (low 9 (omega arith) (omega arith))
      | inl f ↦ next 9 (low 9 (omega arith) (omega arith)) (root-rows (eqb-false _ _ f))
    ]

    pub request-rows : (r : Request) → Rows P (request_rows p root r)
    unfolding request_rows insert_rows extract_rows delete_rows
    request-rows (Insert key value label first second) =
        next 4 (low 4 (omega arith) (omega arith)) (next 5 (low 5 (omega arith) (omega arith)) (next 6 (low 6 (omega arith) (omega arith)) full-rows))
    request-rows Extract = next 4 (low 4 (omega arith) (omega arith)) (next 8 (low 8 (omega arith) (omega arith)) none)
    request-rows (Delete label stamp) =
        next 4 (low 4 (omega arith) (omega arith)) (next 6 (low 6 (omega arith) (omega arith)) (next 7 (low 7 (omega arith) (omega arith)) none))

  -- each of them tells a refusal from none
  pub request-numbered : (r : Request) → Numbered (request_rows p root r)
  request-numbered = request-rows (λ n. n ≡ 0 → ⊥) (λ n l m e. omega arith) (λ f e z. omega arith)
