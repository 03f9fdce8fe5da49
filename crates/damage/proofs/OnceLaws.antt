-- Where no stamp stands twice, a record is known by its stamp. Assumes nothing.
use mathlib.Core.Bool.{false, not, ◌&&◌, true≢false}
use mathlib.Core.List.{List, ◌∷◌, Memᴰ}
use mathlib.Core.Logic.{inl, inr}
use mathlib.Core.Path.{◌≡◌, sym, ◌∙◌}
use mathlib.Mathlib.Data.Bool.Basic.{dichotomy, or-eq-false-eq-eq-false-and-eq-false as neither}
use Rattle.record.specs.declared.Record.{Record}
use Rattle.record.specs.Standing.{is_dummy}
use Rattle.record.specs.Many.{every, bears, stamp_twice}
use Rattle.record.proofs.ManyLaws.{every-each, bears-own, twice-here}

-- the first of some shares its stamp with none of the others
once-apart : (z : Record) (zs : List Record) {y : Record} → stamp_twice (z ∷ zs) ≡ false → is_dummy z ≡ false → Memᴰ y zs
    → is_dummy y ≡ false → y.stamp.0 ≡ z.stamp.0 → ⊥
once-apart z zs {y} once real m other e = elim (dichotomy (every (λ x. not (bears z.stamp x)) zs)) [
  | inl f ↦ true≢false (sym (twice-here z zs real (rw f)) ∙ once)
  | inr t ↦ true≢false (sym (rw (bears-own z.stamp y other e) at (every-each (λ x. not (bears z.stamp x)) t m)))
]

once-later : (z : Record) (zs : List Record) → stamp_twice (z ∷ zs) ≡ false → stamp_twice zs ≡ false
unfolding stamp_twice
once-later z zs once = ((neither (not (is_dummy z) && not (every (λ y. not (bears z.stamp y)) zs)) (stamp_twice zs)).0 once).1

pub stamp-once : {x y : Record} {w : List Record} → stamp_twice w ≡ false → Memᴰ x w → Memᴰ y w → is_dummy x ≡ false
    → is_dummy y ≡ false → x.stamp.0 ≡ y.stamp.0 → x ≡ y
stamp-once once (Memᴰ.head e) (Memᴰ.head f) rx ry s = e ∙ sym f
stamp-once once (Memᴰ.head {x = z} {xs = zs} e) (Memᴰ.tail n) rx ry s =
    absurd (once-apart z zs once (rw e at rx) n ry (sym (rw e at s)))
stamp-once once (Memᴰ.tail m) (Memᴰ.head {x = z} {xs = zs} f) rx ry s =
    absurd (once-apart z zs once (rw f at ry) m rx (rw f at s))
stamp-once once (Memᴰ.tail {x = z} {xs = zs} m) (Memᴰ.tail n) rx ry s = stamp-once (once-later z zs once) m n rx ry s
