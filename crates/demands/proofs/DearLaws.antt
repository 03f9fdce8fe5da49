-- The queue's order of events: by some numbers, one after the other, and so total and transitive. No law below these
-- unfolds it to numbers. Assumes nothing.
use Prim.Native.Nat.{ℕ, ◌≤◌}
use mathlib.Core.Bool.{true, false, true≢false}
use mathlib.Core.List.{List, [], ◌∷◌}
use mathlib.Core.Path.{◌≡◌, sym, ◌∙◌}
use native.Mathlib.Decide.{dec_lt}
use native.Mathlib.Omega.{arith}
use Rattle.record.specs.Order.{lexically}
use Rattle.record.proofs.LexicalLaws.{lex-higher, lex-total, lex-trans, leb-last}
use Rattle.demands.specs.Queue.{Event, no_dearer}

-- its numbers: the key, and those behind it, of which there are none. The last is compared by `leb`
abbrev behind : List (Event → ℕ)
behind = []

abbrev pub numbers : List (Event → ℕ)
numbers = (λ e. e.key) ∷ behind

pub dear-numbers : (a b : Event) → no_dearer a b ≡ lexically numbers a b
dear-numbers a b = rw (leb-last a.key b.key)

-- an event that is no dearer has no greater key
pub dear-keys : (a b : Event) → no_dearer a b ≡ true → a.key ≤ b.key
dear-keys a b h = elim (dec_lt b.key a.key) [
  | yes l ↦ absurd (true≢false (sym h ∙ dear-numbers a b ∙ lex-higher (λ e. e.key) behind a b l))
  | no n ↦ omega arith
]

pub dear-total : (a b : Event) → no_dearer a b ≡ false → no_dearer b a ≡ true
dear-total a b h = dear-numbers b a ∙ lex-total numbers a b (sym (dear-numbers a b) ∙ h)

pub dear-trans : (a b c : Event) → no_dearer a b ≡ true → no_dearer b c ≡ true → no_dearer a c ≡ true
dear-trans a b c h k =
    dear-numbers a c ∙ lex-trans numbers a b c (sym (dear-numbers a b) ∙ h) (sym (dear-numbers b c) ∙ k)
