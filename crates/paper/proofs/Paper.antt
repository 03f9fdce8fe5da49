-- P1 to P12 under one theorem, by computation of the definitions that the promises cite. Assumes nothing.
use mathlib.Core.List.{flat_map}
use mathlib.Core.Path.{◌≡◌, refl}
use Rattle.record.specs.Many.{every, reals, bears, stamp_twice}
use Rattle.record.specs.Order.{before as earlier, smaller_by, smallest_by}
use Rattle.record.specs.Standing.{same, is_dummy, known, is_proper, may_stand}
use Rattle.record.specs.Words.{records, words_of}
use Rattle.lists.specs.BucketList.{pair_list, path_list, sum, words_moved}
use Rattle.path.specs.Path.{path_bucket, holds, sibling_of, up_from, path}
use Rattle.path.specs.Sizes.{between, tree_in, in_range}
use Rattle.refusal.specs.Refusal.{first_given}
use Rattle.root.specs.Root.{strange_slot, used_past, stamp_shared, root_records, greater_than_some, root_full}
use Rattle.way.specs.Evict.{seek, fits, moved_to, pull, pulls, evict_up, evict}
use Rattle.least.specs.Least.{slots_at, in_order, kids}
use Rattle.clearing.specs.Removal.{named, found, removed}
use Rattle.gather.specs.Shown.{whole_at, sibling_at, siblings_shown, slots_shown, way_shown}
use Rattle.mend.specs.Mended.{path_words}
use Rattle.sound.specs.Sound.{sound, path_sound, siblings_sound}
use Rattle.truth.specs.Leasts.{kids_shown, leasts_true}
use Rattle.damage.specs.Damaged.{path_damaged, pair_damaged}
use Rattle.work.specs.PathWork.{path_buckets, least_after}
use Rattle.pair.specs.PairWork.{seated}
use Rattle.judge.specs.BadParts.{odd_least, bad_parts}
use Rattle.settle.specs.Left.{removal, insertion, removal_damaged, insertion_damaged}
use Rattle.checks.specs.Checks.{call_rows}
use Rattle.card.specs.Answers.{or_refused}
use Rattle.card.specs.BadCard.{bad_card}
use Rattle.card.specs.Calls.{call_table, start_table, list_of}
use Rattle.card.specs.Finish.{left_by, damaged_by, finished_by}
use Rattle.request.specs.Tables.{insert_rows, extract_rows, delete_rows, request_rows, waits}
use Rattle.rack.specs.Answers.{any_outside}
use Rattle.copies.specs.Copy.{stored}
use Rattle.decimal.specs.Digits.{digits, fewest, value_from}
use Rattle.decimal.specs.Field.{all_digits, is_number}
use Rattle.fields.specs.Behind.{behind, all_numbers}
use Rattle.fields.specs.Pieces.{pieces, before, same_bytes}
use Rattle.lines.specs.Says.{said_of, said_by, line_says}
use Rattle.frames.specs.Answer.{answer_line}
use Rattle.world.specs.World.{after_begin, after_finish}
use Rattle.rounds.specs.Round.{round_refusal, round_done, round_tree}
use Rattle.steps.specs.Step.{tree_words_used, sized_to, asked_for, min_of, step_of}
use Rattle.paper.specs.Run.{started_desk, given, stated}
use Rattle.paper.specs.Table.{table}

pub paper : given started_desk table ≡ stated table
unfolding flat_map every reals bears stamp_twice earlier smaller_by smallest_by same is_dummy known is_proper may_stand
    records words_of pair_list path_list sum words_moved path_bucket holds sibling_of up_from path between tree_in in_range
    first_given strange_slot used_past stamp_shared root_records greater_than_some root_full seek fits moved_to pull pulls
    evict_up evict slots_at in_order kids named found removed whole_at sibling_at siblings_shown slots_shown way_shown
    path_words sound path_sound siblings_sound kids_shown leasts_true path_damaged pair_damaged path_buckets
    least_after seated odd_least bad_parts removal insertion removal_damaged insertion_damaged or_refused bad_card start_table
    list_of call_table call_rows left_by damaged_by finished_by insert_rows extract_rows delete_rows request_rows
    waits any_outside stored digits fewest value_from all_digits is_number behind pieces before same_bytes all_numbers said_of
    said_by line_says answer_line after_begin after_finish round_refusal round_done round_tree tree_words_used sized_to
    asked_for min_of step_of given stated
paper = refl
