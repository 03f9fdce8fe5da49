-- One answer for every input: document 01, "For every input the promise of each public function determines the answer and every
-- lent word afterwards, refusals too". It is said of a contract as the kit reads it from the source: a function's `Kinds` has its
-- parameters and its result, its `Reads` what is asked (`Asked`) and what is promised (`Learnt`). Assumes nothing.
use Rattle.std.specs.Prelude.{ℕ, List, ◌≡◌}
use contract.Lifetimes.{Lfts}
use denote.Triple.Clauses.{Lasts, at_exit}
use denote.Triple.Walked.{Fit}
use borrow.Fn.Kinds.{ParamKind, ResultKind, In, Out, Dens, res_t, ended_of, stays}

module _ (n : ℕ) (ps : List (ParamKind n)) (r : ResultKind n) where
  -- For all arguments: two outcomes that the promise lets pass are one. An outcome is the answer and, of each parameter that was lent to
  -- be written, what stands there afterwards; that a slice keeps its length is the language's own (`Fit`).
  abbrev pub Determines : In n ps → Out n ps r → Type 0
  Determines asked promised =
      (κs : Lfts n) (a : Dens κs ps) → asked κs a
      → (x y : (res_t r κs).Denot) (xs ys : Lasts (ended_of n ps r) κs a)
      → Fit (ended_of n ps r) (stays ps) κs a xs → Fit (ended_of n ps r) (stays ps) κs a ys
      → promised κs a x (at_exit (ended_of n ps r) κs a xs) → promised κs a y (at_exit (ended_of n ps r) κs a ys)
      → (x ≡ y) × (xs ≡ ys)
