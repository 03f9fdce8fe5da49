-- What a sound record is, and what clause 1 tells of one level. Assumes nothing.
use Prim.Native.Nat.{ℕ, suc, ◌-◌, ◌≤◌}
use mathlib.Core.Bool.{true, and-eq-true_iff}
use mathlib.Core.List.{◌∷◌, Memᴰ}
use mathlib.Core.Logic.{◌⊎◌, inl, inr}
use mathlib.Core.Path.{◌≡◌}
use mathlib.Mathlib.Data.Bool.Basic.{dichotomy}
use native.Mathlib.Omega.{arith}
use Rattle.record.specs.declared.Leaf.{Leaf}
use Rattle.record.specs.declared.Bucket.{Bucket}
use Rattle.record.specs.declared.Record.{Record}
use Rattle.record.specs.declared.Rule.{Rule}
use Rattle.record.specs.Standing.{dummy, is_dummy, is_proper}
use Rattle.record.proofs.StandingLaws.{dummy-is}
use Rattle.record.proofs.ManyLaws.{every-each}
use Rattle.path.specs.Path.{path_bucket, sibling_of, holds}
use Rattle.path.specs.Layout.{Contents}
use Rattle.path.proofs.LevelLaws.{level_in}
use Rattle.sound.specs.Sound.{sound, path_sound, siblings_sound}

-- a sound record is the dummy, or proper and in place
pub sound-cases : (h : ℕ) (rule : Rule) (d : ℕ) (b : Bucket) (r : Record) → sound h rule d b r ≡ true
    → (r ≡ dummy) ⊎ ((is_proper rule r ≡ true) × (holds h r.label d b ≡ true))
unfolding sound
sound-cases h rule d b r s = elim (dichotomy (is_dummy r)) [
  | inl f ↦ inr ((and-eq-true_iff _ _).0 (rw f at s))
  | inr t ↦ inl (dummy-is r t)
]

-- a clause that holds of all levels holds of each
module _ (h : ℕ) (q : Leaf) (d : ℕ) (some : 1 ≤ d) (most : d ≤ h) where
  pub bucket-sound-at : (shown : ℕ → Contents) (rule : Rule) → path_sound h q shown rule ≡ true
      → {x : Record} → Memᴰ x ((shown d).least ∷ (shown d).slots) → sound h rule d (path_bucket h q d) x ≡ true
  unfolding path_sound
  bucket-sound-at shown rule s m = every-each _ (every-each _ s (level_in 1 h d some (omega arith))) m

  pub sibling-sound-at : (beside : ℕ → Record) (rule : Rule) (from : ℕ) → from ≤ d → siblings_sound h q beside rule from ≡ true
      → sound h rule d (sibling_of (path_bucket h q d)) (beside d) ≡ true
  unfolding siblings_sound
  sibling-sound-at beside rule from l s = every-each _ s (level_in from (suc h - from) d l (omega arith))
