-- The sizes that a scratch is cut to: those of a card that is no BadCard, as far as its length hangs on them. Assumes nothing.
use Rattle.std.specs.Prelude.{◌≤◌}
use Rattle.path.specs.declared.sizes.Sizes.{Sizes}

pub record Cut (s : Sizes) : Type 0 where
  pub height : (1 ≤ s.h) × (s.h ≤ 16)
  pub width : s.z ≤ 5
  pub roots : s.r ≤ 64
