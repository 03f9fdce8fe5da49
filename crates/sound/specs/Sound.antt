-- Clause 1 of Damaged: document 01, "a fetched slot or least record is neither the dummy nor a proper record whose path holds
-- that bucket". It is a Bool that computes, over what was fetched for one path: `shown d` is the path's bucket at level d,
-- `beside d` the least record of the sibling there. Assumes nothing.
use Rattle.std.specs.Prelude.{ℕ, suc, ◌-◌, Bool, ◌&&◌, ◌||◌, ◌∷◌}
use Rattle.record.specs.declared.Leaf.{Leaf}
use Rattle.record.specs.declared.Bucket.{Bucket}
use Rattle.record.specs.declared.Record.{Record}
use Rattle.record.specs.declared.Rule.{Rule}
use Rattle.record.specs.Standing.{is_dummy, is_proper}
use Rattle.record.specs.Many.{every}
use Rattle.path.specs.Path.{path_bucket, sibling_of, holds, up_from}
use Rattle.path.specs.Layout.{Contents}
use Rattle.sound.specs.Fetched.{Fetched}

-- "neither the dummy nor a proper record whose path holds that bucket", denied: what may stand in bucket b at level d
unfoldable pub sound : ℕ → Rule → ℕ → Bucket → Record → Bool
sound h rule d b r = is_dummy r || (is_proper rule r && holds h r.label d b)

-- every fetched slot and least record is sound; siblings are fetched from level `from` on
unfoldable pub path_sound : ℕ → Leaf → (ℕ → Contents) → Rule → Bool
path_sound h q shown rule =
    every (λ d. every (sound h rule d (path_bucket h q d)) ((shown d).least ∷ (shown d).slots)) (up_from 1 h)

unfoldable pub siblings_sound : ℕ → Leaf → (ℕ → Record) → Rule → ℕ → Bool
siblings_sound h q beside rule from =
    every (λ d. sound h rule d (sibling_of (path_bucket h q d)) (beside d)) (up_from from (suc h - from))

module _ (h : ℕ) (rule : Rule) (p : Fetched) where
  -- clause 1 for one path, whose siblings were fetched from level `from` on
  abbrev pub all_sound : ℕ → Bool
  all_sound from =
      path_sound h p.leaf p.shown rule && siblings_sound h p.leaf p.beside rule from
