-- A removal that finds its record finds a live event: where none is live, a path that is not Damaged has dummies alone. So
-- the count of live events never falls below 0. Assumes nothing.
use Prim.Native.Nat.{ℕ, ◌+◌, ◌*◌, ◌≤◌}
use mathlib.Core.Bool.{true, false, true≢false}
use mathlib.Core.List.{List}
use mathlib.Core.Logic.{inl, inr}
use mathlib.Core.Path.{◌≡◌, sym, ◌∙◌}
use mathlib.Mathlib.Data.Bool.Basic.{dichotomy, or-eq-false-eq-eq-false-and-eq-false as neither}
use native.Mathlib.Decide.{dec_le}
use native.Mathlib.Omega.{arith}
use lib.ListN.{length}
use Rattle.record.specs.declared.Leaf.{Leaf}
use Rattle.record.specs.declared.Stamp.{Stamp}
use Rattle.record.specs.declared.Record.{Record}
use Rattle.record.specs.declared.Rule.{Rule}
use Rattle.record.specs.Standing.{dummy, is_dummy}
use Rattle.record.proofs.StandingLaws.{dummy-is, is-dummy}
use Rattle.clearing.specs.Removal.{named, found}
use Rattle.damage.proofs.Empty.{none_found}
use Rattle.parts.specs.declared.Parts.{Parts}
use Rattle.parts.specs.Parts.{rule_of}
use Rattle.judge.specs.BadParts.{odd_least}
use Rattle.judge.proofs.FitLaws.{Fit}
use Rattle.settle.specs.Left.{path_way, path_bad, removal, removal_damaged}
use Rattle.settle.specs.Room.{RemovalRoom}

-- the dummy has no name
nameless : (l : Leaf) (s : Stamp) → named l s dummy ≡ false
unfolding named
nameless l s = rw is-dummy

-- the least record of no live events is the dummy
no-least : (rule : Rule) (least : Record) → odd_least rule 0 least ≡ false → least ≡ dummy
unfolding odd_least
no-least rule least e = elim (dichotomy (is_dummy least)) [
  | inl f ↦ absurd (true≢false (rw f at e))
  | inr t ↦ dummy-is least t
]

module _ (p : Parts) (root : List Record) (ws : List ℕ) (q label : Leaf) (stamp : Stamp)
    (fit : Fit p root) (full : p.sizes.r ≤ length root) (room : RemovalRoom p q ws)
    (good : removal_damaged p root ws q (named label stamp) ≡ false) where
  fetched-good : path_bad p root ws q ≡ false
  unfolding removal_damaged
  fetched-good = ((neither _ _).0 good).0

  none-there : p.c ≡ 0 → found (named label stamp) (path_way p.sizes root ws) ≡ false
  none-there e =
      let empty = no-least _ p.least (rw e at fit.odd) in
      let k = room.fetched in
      let given : 4 * ((0 + p.sizes.h) * (p.sizes.z + 1)) ≤ length ws = omega arith in
      none_found p.sizes.h p.sizes.z p.sizes.r root ws full given (rule_of p) q fit.slots (rw empty at fetched-good) (named label stamp) (nameless label stamp)

  pub found-live : (removal p root ws q (named label stamp)).found ≡ true → 1 ≤ p.c
  unfolding removal
  found-live e = elim (dec_le 1 p.c) [
    | yes l ↦ l
    | no l ↦ absurd (true≢false (sym e ∙ none-there (omega arith)))
  ]
