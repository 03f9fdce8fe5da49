-- Damaged looks at levels 1 to h alone, so what the checks are lent gives the verdict on all fetched words. Assumes nothing.
use Prim.Native.Nat.{ℕ, suc, ◌+◌, ◌*◌, ◌-◌, ◌≤◌}
use mathlib.Core.List.{List}
use mathlib.Core.Logic.{inl, inr}
use mathlib.Core.Path.{◌≡◌, refl}
use mathlib.Mathlib.Data.Bool.Basic.{dichotomy}
use native.Mathlib.Omega.{arith}
use lib.Dec.{ltb}
use lib.ListN.{length}
use borrow.Author.Tests.{ltb-true}
use Rattle.record.specs.declared.Leaf.{Leaf}
use Rattle.record.specs.declared.Record.{Record}
use Rattle.record.specs.declared.Rule.{Rule}
use Rattle.path.proofs.LevelLaws.{every-same}
use Rattle.gather.specs.Laid.{laid_over}
use Rattle.gather.specs.Shown.{siblings_shown}
use Rattle.gather.proofs.ShownLaws.{buckets_in, whole-of-part}
use Rattle.gather.proofs.LoadedLaws.{sibling-loaded}
use Rattle.sound.specs.Sound.{path_sound, siblings_sound, all_sound}
use Rattle.truth.specs.Leasts.{kids_shown, leasts_true, all_true}
use Rattle.sound.specs.Fetched.{Fetched, fetched_in, fetched_from}
use Rattle.damage.specs.Damaged.{path_damaged, pair_damaged}

-- one path at the levels that are looked at
pub record Alike (h from : ℕ) (p q : Fetched) : Type 0 where
  pub leaf : p.leaf ≡ q.leaf
  pub shown : (d : ℕ) → 1 ≤ d → d ≤ h → p.shown d ≡ q.shown d
  pub beside : (d : ℕ) → from ≤ d → d ≤ h → p.beside d ≡ q.beside d

module _ (h from : ℕ) (p q : Fetched) (a : Alike h from p q) where
  alike-buckets : (rule : Rule) → path_sound h p.leaf p.shown rule ≡ path_sound h q.leaf q.shown rule
  unfolding path_sound
  alike-buckets rule = every-same _ _ 1 h (λ d l m. rw (a.leaf, a.shown d l (omega arith)))

  alike-siblings : (rule : Rule)
      → siblings_sound h p.leaf p.beside rule from ≡ siblings_sound h q.leaf q.beside rule from
  unfolding siblings_sound
  alike-siblings rule = every-same _ _ from (suc h - from) (λ d l m. rw (a.leaf, a.beside d l (omega arith)))

  alike-sound : (rule : Rule) → all_sound h rule p from ≡ all_sound h rule q from
  alike-sound rule = rw (alike-buckets rule, alike-siblings rule)

  module _ (l : from ≤ 2) where
    alike-kids : (d : ℕ) → 1 ≤ d → kids_shown h p.leaf p.shown p.beside d ≡ kids_shown h q.leaf q.shown q.beside d
    unfolding kids_shown
    alike-kids d some = elim (dichotomy (ltb d h)) [
      | inl f ↦ rw f
      | inr t ↦
          let m = ltb-true d h t in
          rw (t, a.leaf, a.shown (suc d) (omega arith) m, a.beside (suc d) (omega arith) m)
    ]

    alike-true : (rule : Rule) → all_true h rule p ≡ all_true h rule q
    unfolding leasts_true
    alike-true rule = every-same _ _ 1 h (λ d some m. rw (a.shown d some (omega arith), alike-kids d some))

-- the verdicts
module _ (h r : ℕ) (high : 1 ≤ h) (rule : Rule) (least : Record) (slots : List Record) where
  pub path-alike : (p q : Fetched) → Alike h 1 p q → path_damaged h r rule least p slots ≡ path_damaged h r rule least q slots
  unfolding path_damaged
  path-alike p q a =
      rw (alike-sound h 1 p q a rule, alike-true h 1 p q a (omega arith) rule, a.leaf, a.shown 1 (omega arith) high, a.beside 1 (omega arith) high)

  pub pair-alike : (p q p' q' : Fetched) → Alike h 2 p p' → Alike h 2 q q'
      → pair_damaged h r rule least p q slots ≡ pair_damaged h r rule least p' q' slots
  unfolding pair_damaged
  pair-alike p q p' q' a b =
      rw (alike-sound h 2 p p' a rule, alike-sound h 2 q q' b rule, alike-true h 2 p p' a (omega arith) rule, alike-true h 2 q q' b (omega arith) rule, a.shown 1 (omega arith) high, b.shown 1 (omega arith) high)

-- what the checks are lent: the path's part of the words, and a scratch with its siblings from level `from` on
module _ (h z : ℕ) (leaf : Leaf) (ws sibs : List ℕ) (i n k from : ℕ) (given : 4 * ((i + h) * (z + 1)) ≤ length ws) (some : 1 ≤ from)
    (room : 4 * h ≤ length sibs) where
  pub lent_alike :
      Alike h from (fetched_in z leaf (buckets_in z ws i h) (laid_over sibs (from - 1) (siblings_shown z ws n k (h + 1 - from))))
      (fetched_from z leaf ws i n k from)
  lent_alike =
      record {
        leaf = refl;
        shown = λ d l m. whole-of-part z ws i h given (d - 1) (omega arith);
        beside = λ d l m. sibling-loaded h z ws n k from sibs some room d l m;
      }
