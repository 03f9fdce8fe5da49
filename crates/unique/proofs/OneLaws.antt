-- The law of uniqueness: a promise that equates the answer and every lent word with a function of the arguments leaves one
-- outcome. Assumes nothing.
use Prim.Native.Nat.{ℕ}
use mathlib.Core.List.{List}
use mathlib.Core.Path.{◌≡◌, ap, sym, ◌∙◌}
use contract.Lifetimes.{Lfts}
use denote.Triple.Clauses.{Lasts, at_exit}
use denote.Triple.Walked.{Fit}
use borrow.Fn.Kinds.{ParamKind, ResultKind, In, Out, Dens, res_t, ended_of, stays}
use Rattle.unique.specs.One.{Determines}

-- Of any outcome: where a promise equates what is seen of it with one thing, what is seen is one.
pub one-seen :
    {X S : Type 0} (P : X → Type 0) (see : X → S) (due : S) → ((x : X) → P x → see x ≡ due) → (x y : X) → P x → P y → see x ≡ see y
one-seen P see due equates x y p q = equates x p ∙ sym (equates y q)

-- Of a contract, as the kit reads it.
module _ (n : ℕ) (ps : List (ParamKind n)) (r : ResultKind n) (asked : In n ps) (promised : Out n ps r) where
  -- of every outcome that passes, what `see` shows of the answer is `due`, and the lent words are `left`
  module _ {Seen : Lfts n → Type 0} (see : (κs : Lfts n) → (res_t r κs).Denot → Seen κs)
      (due : (κs : Lfts n) → Dens κs ps → Seen κs) (left : (κs : Lfts n) (a : Dens κs ps) → Lasts (ended_of n ps r) κs a) where
    abbrev pub Equated : Type 0
    Equated =
        (κs : Lfts n) (a : Dens κs ps) → asked κs a → (x : (res_t r κs).Denot) (xs : Lasts (ended_of n ps r) κs a)
        → Fit (ended_of n ps r) (stays ps) κs a xs → promised κs a x (at_exit (ended_of n ps r) κs a xs)
        → (see κs x ≡ due κs a) × (xs ≡ left κs a)

    -- where an answer is known by what is seen of it
    pub one-known : ((κs : Lfts n) (x y : (res_t r κs).Denot) → see κs x ≡ see κs y → x ≡ y) → Equated → Determines n ps r asked promised
    one-known known equated κs a ok x y xs ys fx fy p q =
        let one =
        one-seen {S = Seen κs × Lasts (ended_of n ps r) κs a}
        (λ (o : (res_t r κs).Denot × Lasts (ended_of n ps r) κs a).
        Fit (ended_of n ps r) (stays ps) κs a o.1 × promised κs a o.0 (at_exit (ended_of n ps r) κs a o.1))
        (λ o. (see κs o.0, o.1)) (due κs a, left κs a)
        (λ o h. let e = equated κs a ok o.0 o.1 h.0 h.1 in λ i. (e.0 i, e.1 i)) (x, xs) (y, ys) (fx, p) (fy, q) in
        (known κs x y (ap (λ o. o.0) one), ap (λ o. o.1) one)

  -- and where all of it is seen
  module _ (due : (κs : Lfts n) → Dens κs ps → (res_t r κs).Denot) (left : (κs : Lfts n) (a : Dens κs ps) → Lasts (ended_of n ps r) κs a) where
    pub one-answer : Equated (λ κs x. x) due left → Determines n ps r asked promised
    one-answer = one-known (λ κs x. x) due left (λ κs x y e. e)
