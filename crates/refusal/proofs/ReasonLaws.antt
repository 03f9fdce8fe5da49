-- A reason is told by its number, and no reason has 0; so is what a call comes to that hands nothing back. Assumes nothing.
use Prim.Native.Nat.{ℕ}
use mathlib.Core.Path.{◌≡◌, refl, sym, ap, ◌∙◌}
use native.Mathlib.Omega.{arith}
use Rattle.std.specs.Prelude.{List, [], ◌∷◌, slice_index_or, Result, Ok, Err, ⊤}
use Rattle.refusal.specs.declared.Reason.{Reason}
use Rattle.refusal.specs.declared.Reason.TheVariants.{BadSize, Busy, Idle, Spent, BadKey, BadLeaf, BadStamp, Empty, Full, Overflow, ShortRoom, Damaged, BadCard, BadBucket}
use Rattle.refusal.specs.Reason.{reason_number, refusal_in}

-- the reasons, each at the place of its number; none has 0
abbrev reasons : List Reason
reasons =
    BadBucket ∷ BadSize ∷ Busy ∷ Idle ∷ Spent ∷ BadKey ∷ BadLeaf ∷ BadStamp ∷ Empty ∷ Full ∷ Overflow ∷ ShortRoom ∷ Damaged ∷ BadCard ∷ []

abbrev reason_of : ℕ → Reason
reason_of n = slice_index_or reasons n BadBucket

back : (r : Reason) → reason_of (reason_number r) ≡ r
back BadSize = refl
back Busy = refl
back Idle = refl
back Spent = refl
back BadKey = refl
back BadLeaf = refl
back BadStamp = refl
back Empty = refl
back Full = refl
back Overflow = refl
back ShortRoom = refl
back Damaged = refl
back BadCard = refl
back BadBucket = refl

pub one-reason : (r s : Reason) → reason_number r ≡ reason_number s → r ≡ s
one-reason r s e = sym (back r) ∙ ap reason_of e ∙ back s

pub some-number : (r : Reason) → reason_number r ≡ 0 → ⊥
some-number r e =
    let first : r ≡ BadBucket = sym (back r) ∙ ap reason_of e in
    omega (arith, sym e ∙ ap reason_number first)

pub one-outcome : (a b : Result ⊤ Reason) → refusal_in a ≡ refusal_in b → a ≡ b
one-outcome (Ok x) (Ok y) e = refl
one-outcome (Ok x) (Err s) e = absurd (some-number s (sym e))
one-outcome (Err r) (Ok y) e = absurd (some-number r e)
one-outcome (Err r) (Err s) e = ap (λ (t : Reason). Err t) (one-reason r s e)
