-- Two runs worked out by the very steps of demand 2. The first is document 01's, "Input, then whole output": an Insert and a Delete are
-- answered, an Overflow is passed over, and a Delete of what is gone is Absent. In the second two keys are equal, a request is
-- withdrawn, and refusals come in between. Assumes nothing.
use Prim.Native.Nat.{ℕ}
use mathlib.Core.List.{List, [], ◌∷◌, map, flat_map}
use mathlib.Core.Path.{◌≡◌, refl}
use native.Mathlib.Omega.{arith}
use Rattle.record.specs.Standing.{same, is_dummy, known, is_proper, may_stand}
use Rattle.demands.specs.Table.{begins, ends, inserts, lines}
use Rattle.world.specs.World.{fresh_world, extract, Call, withdraw, find_min, Outcome, after_begin, after_finish, step, outcomes}
use Rattle.record.specs.Many.{every, reals, bears, stamp_twice}
use Rattle.record.specs.Order.{before, smaller_by, smallest_by}
use Rattle.record.specs.Words.{records, words_of}
use Rattle.lists.specs.BucketList.{pair_list, path_list, sum, words_moved}
use Rattle.path.specs.Path.{path_bucket, holds, sibling_of, up_from, path}
use Rattle.path.specs.Sizes.{between, tree_in, in_range, sizes_of}
use Rattle.refusal.specs.Refusal.{first_given}
use Rattle.root.specs.Root.{strange_slot, used_past, stamp_shared, root_records, greater_than_some, root_full}
use Rattle.judge.specs.BadParts.{odd_least, bad_parts}
use Rattle.way.specs.Evict.{seek, fits, moved_to, pull, pulls, evict_up, evict}
use Rattle.least.specs.Least.{slots_at, in_order, kids}
use Rattle.clearing.specs.Removal.{named, found, removed}
use Rattle.gather.specs.Shown.{whole_at, sibling_at, siblings_shown, slots_shown, way_shown}
use Rattle.mend.specs.Mended.{path_words}
use Rattle.work.specs.PathWork.{path_buckets, least_after}
use Rattle.pair.specs.PairWork.{seated}
use Rattle.sound.specs.Sound.{sound, path_sound, siblings_sound}
use Rattle.truth.specs.Leasts.{kids_shown, leasts_true}
use Rattle.damage.specs.Damaged.{path_damaged, pair_damaged}
use Rattle.settle.specs.Left.{removal, insertion, removal_damaged, insertion_damaged}
use Rattle.rack.specs.Answers.{any_outside}
use Rattle.copies.specs.Copy.{stored}
use Rattle.checks.specs.Checks.{call_rows}
use Rattle.card.specs.Answers.{or_refused}
use Rattle.card.specs.BadCard.{bad_card}
use Rattle.card.specs.Calls.{call_table, list_of}
use Rattle.card.specs.Finish.{left_by, damaged_by, finished_by}
use Rattle.request.specs.Tables.{insert_rows, extract_rows, delete_rows, request_rows, waits}
use Rattle.answers.specs.Answers.{number_of, values_of}

-- two events with one key; an ExtractMin begun and withdrawn, a finish when none waits, and a begin when one does
abbrev others : List Call
others =
    inserts 5 50 0 1 2 (omega arith) ∷ ends
    ∷ inserts 5 51 3 1 2 (omega arith) ∷ ends
    ∷ begins extract ∷ withdraw ∷ ends
    ∷ begins extract ∷ begins extract ∷ ends
    ∷ find_min
    ∷ []

-- the number of an answer, and its values
abbrev shows : Outcome → List ℕ
shows o = number_of o.answer ∷ values_of o.answer

sample :
    (map shows (outcomes (fresh_world (sizes_of 2 1 1 16)) lines) ≡
    (0 ∷ 4 ∷ 2 ∷ 0 ∷ 0 ∷ 0 ∷ 0 ∷ []) ∷ (0 ∷ 0 ∷ 0 ∷ 0 ∷ 0 ∷ 0 ∷ 72 ∷ [])
    ∷ (0 ∷ 4 ∷ 2 ∷ 0 ∷ 0 ∷ 0 ∷ 0 ∷ []) ∷ (0 ∷ 0 ∷ 0 ∷ 0 ∷ 1 ∷ 0 ∷ 72 ∷ [])
    ∷ (10 ∷ 0 ∷ 0 ∷ 0 ∷ 0 ∷ 0 ∷ 0 ∷ [])
    ∷ (0 ∷ 5 ∷ 50 ∷ 0 ∷ 1 ∷ 0 ∷ 0 ∷ [])
    ∷ (0 ∷ 2 ∷ 2 ∷ 0 ∷ 0 ∷ 0 ∷ 0 ∷ []) ∷ (0 ∷ 5 ∷ 50 ∷ 0 ∷ 1 ∷ 0 ∷ 40 ∷ [])
    ∷ (0 ∷ 2 ∷ 2 ∷ 0 ∷ 0 ∷ 0 ∷ 0 ∷ []) ∷ (0 ∷ 0 ∷ 0 ∷ 0 ∷ 0 ∷ 1 ∷ 40 ∷ [])
    ∷ (0 ∷ 2 ∷ 2 ∷ 0 ∷ 0 ∷ 0 ∷ 0 ∷ []) ∷ (0 ∷ 0 ∷ 0 ∷ 0 ∷ 0 ∷ 0 ∷ 40 ∷ [])
    ∷ (8 ∷ 0 ∷ 0 ∷ 0 ∷ 0 ∷ 0 ∷ 0 ∷ [])
    ∷ [])
    × (map shows (outcomes (fresh_world (sizes_of 2 1 2 16)) others) ≡
    (0 ∷ 4 ∷ 2 ∷ 0 ∷ 0 ∷ 0 ∷ 0 ∷ []) ∷ (0 ∷ 0 ∷ 0 ∷ 0 ∷ 0 ∷ 0 ∷ 72 ∷ [])
    ∷ (0 ∷ 4 ∷ 2 ∷ 0 ∷ 0 ∷ 0 ∷ 0 ∷ []) ∷ (0 ∷ 0 ∷ 0 ∷ 3 ∷ 1 ∷ 0 ∷ 72 ∷ [])
    ∷ (0 ∷ 2 ∷ 2 ∷ 0 ∷ 0 ∷ 0 ∷ 0 ∷ []) ∷ (0 ∷ 0 ∷ 0 ∷ 0 ∷ 0 ∷ 0 ∷ 0 ∷ []) ∷ (3 ∷ 0 ∷ 0 ∷ 0 ∷ 0 ∷ 0 ∷ 0 ∷ [])
    ∷ (0 ∷ 2 ∷ 2 ∷ 0 ∷ 0 ∷ 0 ∷ 0 ∷ []) ∷ (2 ∷ 0 ∷ 0 ∷ 0 ∷ 0 ∷ 0 ∷ 0 ∷ []) ∷ (0 ∷ 5 ∷ 50 ∷ 0 ∷ 0 ∷ 0 ∷ 40 ∷ [])
    ∷ (0 ∷ 5 ∷ 51 ∷ 3 ∷ 1 ∷ 0 ∷ 0 ∷ [])
    ∷ [])
unfolding every reals bears stamp_twice before smaller_by smallest_by same is_dummy known is_proper may_stand records
    words_of pair_list path_list sum words_moved path_bucket holds sibling_of up_from path between tree_in in_range first_given
    strange_slot used_past stamp_shared root_records greater_than_some root_full odd_least bad_parts seek fits moved_to pull
    pulls evict_up evict slots_at in_order kids named found removed whole_at sibling_at siblings_shown slots_shown way_shown
    path_words path_buckets least_after seated sound path_sound siblings_sound kids_shown leasts_true path_damaged
    pair_damaged removal insertion removal_damaged insertion_damaged any_outside stored or_refused bad_card list_of
    call_table call_rows left_by damaged_by finished_by insert_rows extract_rows delete_rows
    request_rows waits after_begin after_finish step outcomes flat_map
sample = (refl, refl)
