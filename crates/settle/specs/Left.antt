-- What a finish leaves, and when it is Damaged: document 01, "A request, step by step" and "Refusal numbers". It works on
-- what the card's parts and the fetched words show. Assumes nothing.
use Rattle.std.specs.Prelude.{ℕ, suc, ◌*◌, ◌-◌, Bool, false, cond, ◌||◌, List, ◌++◌, length, drop}
use Rattle.record.specs.declared.Leaf.{Leaf}
use Rattle.record.specs.declared.Record.{Record}
use Rattle.record.specs.declared.Rule.{Rule}
use Rattle.path.specs.declared.sizes.Sizes.{Sizes}
use Rattle.path.specs.Layout.{Contents}
use Rattle.parts.specs.declared.Parts.{Parts}
use Rattle.parts.specs.Parts.{rule_of}
use Rattle.least.specs.Least.{root_slots}
use Rattle.clearing.specs.Removal.{found}
use Rattle.gather.specs.Shown.{siblings_shown, slots_shown, way_shown}
use Rattle.mend.specs.Mended.{path_words}
use Rattle.sound.specs.Fetched.{path_fetched, first_fetched, second_fetched}
use Rattle.damage.specs.Damaged.{path_damaged, pair_damaged}
use Rattle.judge.specs.BadParts.{bad_parts}
use Rattle.work.specs.PathWork.{path_buckets, least_after}
use Rattle.work.specs.RemovalWork.{removal_root, removal_buckets, removal_least, rooted}
use Rattle.pair.specs.PairWork.{first_after, second_after, second_beside, first_siblings, second_siblings}

-- the root's 64 places and its least record, the count of live events, whether a record was found to remove, and the whole
-- buckets in list order
pub record Left : Type 0 where
  pub root : List Record
  pub least : Record
  pub c : ℕ
  pub found : Bool
  pub buckets : List Contents

-- "each bucket's part of the fetched words is written where it stands; sibling words, and any words past the list, stay"
abbrev pub words_left : Left → List ℕ → List ℕ
words_left l ws = path_words l.buckets ++ drop (length (path_words l.buckets)) ws

-- the parts of the card that comes out, with so many live events and this least record: "Every finished Insert, ExtractMin and
-- Delete adds 1 to t."
abbrev pub parts_after : Parts → ℕ → Record → Parts
parts_after p c least = record { sizes = p.sizes; t = suc p.t; c = c; least = least }

-- what is proper on it, whatever its live events and its least record are: the rule of the work
abbrev pub rule_after : Parts → Rule
rule_after p = rule_of (parts_after p p.c p.least)

-- what is shown of one path, an Insert's first too: its way, and the least records of its siblings
abbrev pub path_way : Sizes → List Record → List ℕ → List Record
path_way s root ws = way_shown s.h s.z s.r root ws 0

abbrev pub path_siblings : Sizes → List ℕ → List Record
path_siblings s ws = siblings_shown s.z ws s.h 0 s.h

-- and of an Insert's second: its slots
abbrev pub second_slots : Sizes → List ℕ → List Record
second_slots s ws = slots_shown s.z ws s.h s.h

-- Insert: "puts the record .. into the lowest dummy slot of the root, then evicts the first path, then the second". The
-- first path's way after that, and the second's.
module _ (s : Sizes) (root : List Record) (ws : List ℕ) where
  abbrev pub lower_after : Leaf → Record → List Record
  lower_after first new = first_after s first new (path_way s root ws)

  abbrev pub upper_after : Leaf → Leaf → Record → List Record
  upper_after first second new = second_after s first second new (path_way s root ws) (second_slots s ws)

module _ (p : Parts) (root : List Record) (ws : List ℕ) where
  abbrev way : List Record
  way = path_way p.sizes root ws

  -- the least records beside an Insert's second path, and the buckets that each of its paths is left with
  abbrev pub upper_beside : Leaf → Record → ℕ → Record
  upper_beside first new =
      second_beside (rule_after p) p.sizes first (first_siblings p.sizes ws) (lower_after p.sizes root ws first new) (second_siblings p.sizes ws)

  abbrev pub lower_left : Leaf → Record → List Contents
  lower_left first new =
      path_buckets (rule_after p) p.sizes first (first_siblings p.sizes ws) (lower_after p.sizes root ws first new)

  abbrev pub upper_left : Leaf → Leaf → Record → List Contents
  upper_left first second new =
      path_buckets (rule_after p) p.sizes second (upper_beside first new) (upper_after p.sizes root ws first second new)

  -- ExtractMin and Delete: the record that passes is replaced by the dummy, "or answers Absent and removes nothing. Then
  -- the path is evicted."
  unfoldable pub removal : Leaf → (Record → Bool) → Left
  removal q f =
      record {
        root = rooted p.sizes.r (removal_root p.sizes q f way) root;
        least = removal_least (rule_after p) p.sizes q f (path_siblings p.sizes ws) way;
        c = cond (found f way) (p.c - 1) p.c;
        found = found f way;
        buckets = removal_buckets (rule_after p) p.sizes q f (path_siblings p.sizes ws) way;
      }

  unfoldable pub insertion : Leaf → Leaf → Record → Left
  insertion first second new =
      record {
        root = rooted p.sizes.r (root_slots p.sizes.r (upper_after p.sizes root ws first second new)) root;
        least = least_after (rule_after p) p.sizes second (upper_beside first new) (upper_after p.sizes root ws first second new);
        c = suc p.c;
        found = false;
        buckets = lower_left first new ++ upper_left first second new;
      }

-- "or the card that would come out is a BadCard": no request waits on that card
abbrev pub bad_left : Parts → Left → Bool
bad_left p l = bad_parts (parts_after p l.c l.least) l.root

-- Damaged: its first three clauses, those of what was fetched, of one path and of an Insert's two; and with the fourth
module _ (p : Parts) (root : List Record) (ws : List ℕ) where
  abbrev pub path_bad : Leaf → Bool
  path_bad q =
      path_damaged p.sizes.h p.sizes.r (rule_of p) p.least (path_fetched p.sizes.h p.sizes.z q ws)
      (path_way p.sizes root ws)

  abbrev pub pair_bad : Leaf → Leaf → Bool
  pair_bad first second =
      pair_damaged p.sizes.h p.sizes.r (rule_of p) p.least (first_fetched p.sizes.h p.sizes.z first ws)
      (second_fetched p.sizes.h p.sizes.z second ws) (way_shown (2 * p.sizes.h) p.sizes.z p.sizes.r root ws 0)

  unfoldable pub removal_damaged : Leaf → (Record → Bool) → Bool
  removal_damaged q f = path_bad q || bad_left p (removal p root ws q f)

  unfoldable pub insertion_damaged : Leaf → Leaf → Record → Bool
  insertion_damaged first second new = pair_bad first second || bad_left p (insertion p root ws first second new)
