-- What card and fetched words show of the one path of ExtractMin and Delete: document 01, "Finish takes the fetched words in
-- list order." and "4 for each sibling once". Assumes nothing.
use Rattle.std.specs.Prelude.{ℕ, ◌+◌, ◌*◌, ◌≤◌, List, ◌≡◌, length}
use Rattle.record.specs.declared.Record.{Record}
use Rattle.record.specs.Words.{records}
use Rattle.path.specs.declared.sizes.Sizes.{Sizes}
use Rattle.path.specs.Cut.{Cut}
use Rattle.path.specs.Layout.{record_words}
use Rattle.gather.specs.Shown.{siblings_shown, way_shown}

-- the way, the siblings' least records, and the words moved for these siblings
pub record PathShown (s : Sizes) (root : List Record) (ws w sibs : List ℕ) (moved : ℕ) : Type 0 where
  pub way : records w ≡ way_shown s.h s.z s.r root ws 0
  pub siblings : records sibs ≡ siblings_shown s.z ws s.h 0 s.h
  pub counted : moved ≡ s.h * record_words

-- room for them: scratches just as long, and the fetched words
pub record PathRoom (s : Sizes) (ws w sibs : List ℕ) : Type 0 where
  pub sizes : Cut s
  pub slots : length w ≡ 4 * (s.r + s.z * s.h)
  pub siblings : length sibs ≡ 4 * s.h
  pub fetched : 4 * (s.h * (s.z + 1) + s.h) ≤ length ws
