-- Small lists of slots: what the definition of stamps that stand twice comes to. A dummy taken for a record changes one of
-- these. Assumes nothing.
use mathlib.Core.Bool.{true, false}
use mathlib.Core.List.{[], ◌∷◌}
use mathlib.Core.Path.{◌≡◌, refl}
use Rattle.record.specs.declared.Record.{Record}
use Rattle.record.specs.Many.{every, bears, stamp_twice}
use Rattle.record.specs.Standing.{dummy, is_dummy, same}
use Rattle.record.specs.Words.{record4}

-- stamps 0 and 1
a : Record
a = record4 7 70 0 0

c : Record
c = record4 5 50 1 1

-- dummies have stamp 0, and so has `a`: they do not count
dummies : stamp_twice (dummy ∷ a ∷ dummy ∷ c ∷ []) ≡ false
unfolding a c stamp_twice every bears is_dummy same
dummies = refl

twice : stamp_twice (dummy ∷ a ∷ c ∷ a ∷ []) ≡ true
unfolding a c stamp_twice every bears is_dummy same
twice = refl
