-- What a finish is asked for: sizes, leaves and counts of a card that is no BadCard, and words that are not too short.
-- Assumes nothing.
use Rattle.std.specs.Prelude.{ℕ, ◌+◌, ◌*◌, ◌-◌, ◌≤◌, ◌<◌, List, length}
use Rattle.record.specs.declared.Leaf.{Leaf}
use Rattle.path.specs.Sizes.{leaves_of}
use Rattle.path.specs.Cut.{Cut}
use Rattle.parts.specs.declared.Parts.{Parts}

pub record Fits (p : Parts) : Type 0 where
  pub sizes : Cut p.sizes
  pub counts : (p.t ≤ 4294967295) × (p.c ≤ 4294967295)

pub record RemovalRoom (p : Parts) (q : Leaf) (ws : List ℕ) : Type 0 where
  pub parts : Fits p
  pub leaf : q.0 < leaves_of p.sizes.h
  pub fetched : 4 * (p.sizes.h * (p.sizes.z + 1) + p.sizes.h) ≤ length ws

pub record InsertionRoom (p : Parts) (first second : Leaf) (ws : List ℕ) : Type 0 where
  pub parts : Fits p
  pub lower : first.0 < leaves_of p.sizes.h
  pub upper : second.0 < leaves_of p.sizes.h
  pub fetched : 4 * (2 * p.sizes.h * (p.sizes.z + 1) + 2 * (p.sizes.h - 1)) ≤ length ws
