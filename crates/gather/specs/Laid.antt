-- Records laid over some words, four words to a record, from a place on: what every load leaves. Assumes nothing.
use Rattle.std.specs.Prelude.{ℕ, ◌+◌, ◌*◌, ◌-◌, List, ◌++◌, ◌≡◌, length, take, drop}
use Rattle.record.specs.declared.Record.{Record}
use Rattle.record.specs.Words.{words_of}
use Rattle.path.specs.Layout.{record_words}
use Rattle.gather.specs.Shown.{siblings_shown}

-- all words before the place and behind the last record are as they were
unfoldable pub laid_over : List ℕ → ℕ → List Record → List ℕ
laid_over ws place rs = take (4 * place) ws ++ words_of rs ++ drop (4 * (place + length rs)) ws

-- k siblings' least records from a level on, behind n whole buckets and i siblings; "4 for each sibling once"
pub record SiblingsLoaded (z : ℕ) (ws : List ℕ) (n i level k : ℕ) (before after : List ℕ) (moved : ℕ) : Type 0 where
  pub laid : after ≡ laid_over before (level - 1) (siblings_shown z ws n i k)
  pub counted : moved ≡ k * record_words
