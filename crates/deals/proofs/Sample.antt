-- Two pairs of sequences to which demand 3 applies, worked out by the very steps that it is stated over. In both the dealing moves
-- labels, and the rack sees the same to the end. With one slot less in the root the labels that are dealt lead the other pair's
-- second to an Overflow, and the rack sees the same until then. Assumes nothing.
use Prim.Native.Nat.{ℕ, ◌<◌, ◌≤◌}
use mathlib.Core.List.{List, [], ◌∷◌, map, flat_map}
use mathlib.Core.Path.{◌≡◌, refl, sym, subst}
use native.Mathlib.Omega.{arith}
use lib.ListN.{length, replicate, get_or}
use Rattle.record.specs.Many.{every, reals, bears, stamp_twice}
use Rattle.record.specs.Order.{before, smaller_by, smallest_by}
use Rattle.record.specs.Standing.{dummy_key, same, is_dummy, known, is_proper, may_stand}
use Rattle.record.specs.Words.{records, words_of}
use Rattle.path.specs.declared.sizes.Sizes.{Sizes}
use Rattle.record.specs.declared.Leaf.{Leaf}
use Rattle.lists.specs.BucketList.{pair_list, path_list, numbers, counts, fetched_for, sum, words_moved}
use Rattle.lists.specs.declared.Listed.{Listed as Counts}
use Rattle.lists.proofs.ListLaws.{pair-counts, path-counts, length-pair-numbers, length-path-numbers}
use Rattle.path.specs.Path.{number, path_bucket, holds, sibling_of, up_from, path}
use Rattle.path.specs.Sizes.{sizes_of, between, tree_in, in_range}
use Rattle.refusal.specs.Refusal.{first_given}
use Rattle.root.specs.Root.{strange_slot, used_past, stamp_shared, root_records, greater_than_some, root_full}
use Rattle.judge.specs.BadParts.{odd_least, bad_parts}
use Rattle.way.specs.Evict.{seek, fits, moved_to, pull, pulls, evict_up, evict}
use Rattle.least.specs.Least.{slots_at, in_order, kids}
use Rattle.clearing.specs.Removal.{named, found, removed}
use Rattle.gather.specs.Shown.{whole_at, sibling_at, siblings_shown, slots_shown, way_shown}
use Rattle.mend.specs.Mended.{path_words}
use Rattle.work.specs.PathWork.{path_buckets, least_after}
use Rattle.pair.specs.PairWork.{seated}
use Rattle.sound.specs.Sound.{sound, path_sound, siblings_sound}
use Rattle.truth.specs.Leasts.{kids_shown, leasts_true}
use Rattle.damage.specs.Damaged.{path_damaged, pair_damaged}
use Rattle.settle.specs.Left.{removal, insertion, removal_damaged, insertion_damaged}
use Rattle.rack.specs.Answers.{any_outside}
use Rattle.copies.specs.Copy.{stored}
use Rattle.request.specs.declared.Request.{Request}
use Rattle.answers.specs.Answers.{values_of}
use Rattle.card.specs.Answers.{or_refused}
use Rattle.card.specs.BadCard.{bad_card}
use Rattle.checks.specs.Checks.{call_rows}
use Rattle.card.specs.Calls.{call_table, list_of}
use Rattle.card.specs.Finish.{left_by, damaged_by, finished_by}
use Rattle.request.specs.Tables.{insert_rows, extract_rows, delete_rows, request_rows, waits}
use Rattle.demands.specs.Queue.{Queue, least_event, has, taken_out, next}
use Rattle.world.specs.World.{fresh_world, Asked, insert, extract, delete, Call, begin, finish, find_min, Outcome, after_begin, after_finish, step, outcomes}
use Rattle.demands.specs.Says.{asks as wants}
use Rattle.deals.specs.Trace.{Seen, seen, trace, until_overflow}
use Rattle.deals.specs.Sequences.{leaf, labelled, labels, clean, unlabelled, Sound, Fair, Valid, none, look, request}
use Rattle.deals.specs.Dealing.{leaving, paired, deal, dealt}
use Rattle.deals.specs.Demand3.{Twins}

-- ---- calls, with lists and words that are long enough
abbrev asks : {w : Request} → Asked w → Call
asks a = begin a (replicate 6 0)

abbrev ends : Call
ends = finish (replicate 40 0)

abbrev inserts : (key value label first second : ℕ) → key ≤ dummy_key → Call
inserts key value label first second word = asks (insert {key = key} {value = value} {label = leaf label} {first = leaf first} {second = leaf second} word)

abbrev deletes : (label stamp : ℕ) → Call
deletes label stamp = asks (delete {label = leaf label} {stamp = record { 0 = stamp }})

-- in a tree of height 2 with one slot a bucket they are long enough for each request
two-paths : (first second : Leaf) → (length (numbers (pair_list 2 first second)) ≤ 6) × (fetched_for 1 (counts (pair_list 2 first second)) ≤ 40)
two-paths first second = (
  omega (arith, length-pair-numbers 2 first second (omega arith)),
  subst (λ (n : Counts). fetched_for 1 n ≤ 40) (sym (pair-counts 2 first second (omega arith))) (omega arith),
)

one-path : (q : Leaf) → (length (numbers (path_list 2 q)) ≤ 6) × (fetched_for 1 (counts (path_list 2 q)) ≤ 40)
one-path q = (omega (arith, length-path-numbers 2 q), subst (λ (n : Counts). fetched_for 1 n ≤ 40) (sym (path-counts 2 q)) (omega arith))

enough : (r : ℕ) {q : Queue} {w : Request} → Asked w → Sound q (unlabelled (wants w)) → Fair (sizes_of 2 1 r 16) q w (replicate 6 0) (replicate 40 0)
enough r (insert {first = first} {second = second} word) h =
    record { sound = h; room = λ p. (two-paths first second).0; lent = λ p. (two-paths first second).1 }
enough r extract h = record { sound = h; room = λ p. (one-path p.least.label).0; lent = λ p. (one-path p.least.label).1 }
enough r (delete {label = label}) h = record { sound = h; room = λ p. (one-path label).0; lent = λ p. (one-path label).1 }

lent-enough : (r : ℕ) {q : Queue} {w : Request} (a : Asked w) {cs : List Call} → Sound q (unlabelled (wants w))
    → Valid (sizes_of 2 1 r 16) (next q (unlabelled (wants w))) cs → Valid (sizes_of 2 1 r 16) q (asks a ∷ ends ∷ cs)
lent-enough r a h later = request (enough r a h) later

-- what is seen of a call, in numbers
pub record Lists : Type 0 where
  pub whole : List ℕ
  pub least : List ℕ
  pub stored : List ℕ

abbrev lists : Seen → Lists
lists x = record { whole = map number x.asked.whole; least = map number x.asked.least; stored = map number x.stored }

abbrev asked : List ℕ → List ℕ → Lists
asked whole least = record { whole = whole; least = least; stored = [] }

abbrev back : List ℕ → Lists
back stored = record { whole = []; least = []; stored = stored }

-- the whole buckets of an Insert with the eviction leaves 1 and 2, and with 0 and 3
abbrev near : List ℕ
near = 2 ∷ 5 ∷ 3 ∷ 6 ∷ []

abbrev far : List ℕ
far = 2 ∷ 4 ∷ 3 ∷ 7 ∷ []

-- two sequences to which demand 3 applies, the labels that are dealt, what the rack sees of both, and when the second overflows
record Worked (s : Sizes) (first second : List Call) (dealt_labels : List ℕ) (of_first of_second : List Lists) (until : ℕ) : Type 0 where
  twins : Twins s first second
  dealing : labels (dealt first second) ≡ dealt_labels
  shows_first : map lists (trace (fresh_world s) first) ≡ of_first
  shows_second : map lists (trace (fresh_world s) (dealt first second)) ≡ of_second
  overflow : until_overflow (fresh_world s) (dealt first second) ≡ until

-- ---- labels exchanged
-- The first takes out its second event by ExtractMin and its first by Delete, the second the other way round. Its labels are yet to
-- be dealt: 9 is none.
abbrev one : List Call
one =
    inserts 7 70 0 1 2 (omega arith) ∷ ends ∷ inserts 5 50 3 0 3 (omega arith) ∷ ends ∷ find_min ∷ asks extract ∷ ends ∷ deletes 0 0 ∷ ends ∷ []

abbrev two : List Call
two =
    inserts 1 10 9 1 2 (omega arith) ∷ ends ∷ inserts 2 20 9 0 3 (omega arith) ∷ ends ∷ find_min ∷ asks extract ∷ ends ∷ deletes 9 1 ∷ ends ∷ []

abbrev both_show : List Lists
both_show =
    asked near (4 ∷ 7 ∷ []) ∷ back near
    ∷ asked far (5 ∷ 6 ∷ []) ∷ back far
    ∷ asked [] []
    ∷ asked (3 ∷ 7 ∷ []) (2 ∷ 6 ∷ []) ∷ back (3 ∷ 7 ∷ [])
    ∷ asked (2 ∷ 4 ∷ []) (3 ∷ 5 ∷ []) ∷ back (2 ∷ 4 ∷ [])
    ∷ []

-- ---- labels that overflow
-- The first takes out its second event, the second its third, which so gets the label 3, and its first two have 0. With two slots in
-- the root the rack sees the same to the end, though the roots differ. With one the second event fills the root, and the third
-- overflows at its begin; its finish is then refused, too.
abbrev three : List Call
three =
    inserts 7 70 0 1 2 (omega arith) ∷ ends ∷ inserts 5 50 3 1 2 (omega arith) ∷ ends ∷ inserts 6 60 0 1 2 (omega arith) ∷ ends ∷ asks extract ∷ ends ∷ []

abbrev four : List Call
four =
    inserts 7 70 9 1 2 (omega arith) ∷ ends ∷ inserts 6 60 9 1 2 (omega arith) ∷ ends ∷ inserts 5 50 9 1 2 (omega arith) ∷ ends ∷ asks extract ∷ ends ∷ []

abbrev three_shows : List Lists
three_shows =
    asked near (4 ∷ 7 ∷ []) ∷ back near
    ∷ asked near (4 ∷ 7 ∷ []) ∷ back near
    ∷ asked near (4 ∷ 7 ∷ []) ∷ back near
    ∷ asked (3 ∷ 7 ∷ []) (2 ∷ 6 ∷ []) ∷ back (3 ∷ 7 ∷ [])
    ∷ []

abbrev four_shows : List Lists
four_shows =
    asked near (4 ∷ 7 ∷ []) ∷ back near
    ∷ asked near (4 ∷ 7 ∷ []) ∷ back near
    ∷ asked [] [] ∷ back []
    ∷ asked (2 ∷ 4 ∷ []) (3 ∷ 5 ∷ []) ∷ back (2 ∷ 4 ∷ [])
    ∷ []

-- ---- "Absent .. stores its buckets like any other"
-- A Delete that finds its event, and the same Delete again: the rack sees the same of both.
abbrev twice : List Call
twice = inserts 7 70 0 1 2 (omega arith) ∷ ends ∷ deletes 0 0 ∷ ends ∷ deletes 0 0 ∷ ends ∷ []

abbrev twice_shows : List Lists
twice_shows =
    asked near (4 ∷ 7 ∷ []) ∷ back near
    ∷ asked (2 ∷ 4 ∷ []) (3 ∷ 5 ∷ []) ∷ back (2 ∷ 4 ∷ [])
    ∷ asked (2 ∷ 4 ∷ []) (3 ∷ 5 ∷ []) ∷ back (2 ∷ 4 ∷ [])
    ∷ []

-- whether an answer is that of a Delete that found
abbrev found_of : Outcome → ℕ
found_of o = get_or (values_of o.answer) 4 0

worked :
    Worked (sizes_of 2 1 2 16) one two (3 ∷ 0 ∷ []) both_show both_show 9
    × Worked (sizes_of 2 1 2 16) three four (0 ∷ 0 ∷ 3 ∷ []) three_shows three_shows 8
    × Worked (sizes_of 2 1 1 16) three four (0 ∷ 0 ∷ 3 ∷ []) three_shows four_shows 4
    × (map lists (trace (fresh_world (sizes_of 2 1 2 16)) twice) ≡ twice_shows)
    × (map found_of (outcomes (fresh_world (sizes_of 2 1 2 16)) twice) ≡ 0 ∷ 0 ∷ 0 ∷ 1 ∷ 0 ∷ 0 ∷ [])
unfolding every reals bears stamp_twice before smaller_by smallest_by same is_dummy known is_proper may_stand records
    words_of pair_list path_list sum words_moved path_bucket holds sibling_of up_from path between tree_in in_range first_given
    strange_slot used_past stamp_shared root_records greater_than_some root_full odd_least bad_parts seek fits moved_to pull
    pulls evict_up evict slots_at in_order kids named found removed whole_at sibling_at siblings_shown slots_shown way_shown
    path_words path_buckets least_after seated sound path_sound siblings_sound kids_shown leasts_true path_damaged
    pair_damaged removal insertion removal_damaged insertion_damaged any_outside stored or_refused bad_card list_of
    call_table call_rows left_by damaged_by finished_by insert_rows extract_rows delete_rows
    request_rows waits after_begin after_finish step outcomes flat_map seen trace until_overflow deal paired leaving least_event has taken_out labels labelled clean
worked =
    let key : (n : ℕ) → n ≤ 7 → n < dummy_key = λ n h. omega arith in (
      record {
        twins = record {
          sizes = refl;
          clear = refl;
          kinds = refl;
          valid = lent-enough 2 _ (key 1 (omega arith)) (lent-enough 2 _ (key 2 (omega arith)) (look (lent-enough 2 _ tt (lent-enough 2 _ refl none))));
        };
        dealing = refl;
        shows_first = refl;
        shows_second = refl;
        overflow = refl;
      },
      record {
        twins = record {
          sizes = refl;
          clear = refl;
          kinds = refl;
          valid = lent-enough 2 _ (key 7 (omega arith)) (lent-enough 2 _ (key 6 (omega arith)) (lent-enough 2 _ (key 5 (omega arith)) (lent-enough 2 _ tt none)));
        };
        dealing = refl;
        shows_first = refl;
        shows_second = refl;
        overflow = refl;
      },
      record {
        twins = record {
          sizes = refl;
          clear = refl;
          kinds = refl;
          valid = lent-enough 1 _ (key 7 (omega arith)) (lent-enough 1 _ (key 6 (omega arith)) (lent-enough 1 _ (key 5 (omega arith)) (lent-enough 1 _ tt none)));
        };
        dealing = refl;
        shows_first = refl;
        shows_second = refl;
        overflow = refl;
      },
      refl,
      refl,
    )
