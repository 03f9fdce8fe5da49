-- A finish on a world that stands, with the rack's fetch before it and its store after it. Assumes nothing.
use Prim.Native.Nat.{ℕ, ◌≤◌, ◌<◌}
use mathlib.Core.Bool.{false}
use mathlib.Core.List.{List, []}
use mathlib.Core.Logic.{◌⊎◌, inl, inr}
use mathlib.Core.Path.{◌≡◌, refl, sym, ◌∙◌, subst}
use mathlib.Mathlib.Data.Bool.Basic.{dichotomy}
use native.Mathlib.Omega.{arith}
use lib.Dec.{ltb}
use lib.ListN.{length}
use borrow.Author.Tests.{ltb-true, ltb-false}
use Rattle.std.specs.Prelude.{Option, None, Some}
use Rattle.record.specs.declared.Record.{Record}
use Rattle.path.proofs.SizesLaws.{tree-range}
use Rattle.lists.specs.BucketList.{counts, no_buckets, numbers, laid}
use Rattle.refusal.specs.Refusal.{first_given}
use Rattle.parts.specs.declared.Parts.{Parts}
use Rattle.request.specs.declared.Request.{Request}
use Rattle.request.specs.Job.{job_of}
use Rattle.listing.specs.Listing.{words_asked}
use Rattle.rack.specs.Answers.{any_outside}
use Rattle.rack.proofs.ListedLaws.{laid-passes}
use Rattle.card.specs.declared.Card.{Card}
use Rattle.card.specs.Tables.{parts_of}
use Rattle.card.specs.BadCard.{bad_card}
use Rattle.card.specs.Finish.{words_needed, entry_table}
use Rattle.card.proofs.FinishLaws.{none-waits, words-short, words-enough}
use Rattle.card.proofs.FinishedLaws.{entry-decides}
use Rattle.served.specs.Ready.{Ready}
use Rattle.served.specs.LiveAfter.{live_after}
use Rattle.served.proofs.CallLaws.{ready-card}
use Rattle.served.proofs.FinishedLaws.{WordKey, finish-ready}
use Rattle.served.proofs.EndLaws.{work_left, served_by, rack-short, finish-ends}
use Rattle.world.proofs.WorldLaws.{finish-refused}
use Rattle.card.proofs.FinishedLaws.{finished-number}
use Rattle.demands.specs.Queue.{Queue}
use Rattle.world.specs.World.{holding_list, World, Call, finish, Outcome, finish_number, rack_number, shown, step}
use Rattle.demands.specs.Refusals.{refusal_of}
use Rattle.demands.specs.Demand2.{TooFew}
use Rattle.demands.proofs.AnswerLaws.{queue_of, parts-told, finish-says, next-events, next-taken}
use Rattle.demands.proofs.RefusalsLaws.{call-number}
use Rattle.demands.proofs.StepLaws.{held_for, Worded, Plays, refused_as}

module _ (k : Card) (tree places : List ℕ) (live : List Record) (r : Ready k tree live) where
  -- the world whose list is the one of what waits
  abbrev world_of : Option Request → World
  world_of w = holding_list k tree (laid (held_for k w) places) (counts (held_for k w))

  abbrev q : Queue
  q = queue_of live k.t

  -- one call on it
  abbrev Played : Option Request → Call → Outcome → Type 0
  Played w c o = Plays k.sizes (world_of w) w q c o

  fine : bad_card k ≡ false
  fine = ready-card k tree live r

  told : (w : Option Request) → k.waiting ≡ w → (words : List ℕ) → first_given (entry_table k (length words)) ≡ refusal_of k.sizes k.root w q (finish words)
  told w e words =
      subst (λ (v : Option Request). first_given (entry_table k (length words)) ≡ refusal_of k.sizes k.root v q (finish words)) e
      (call-number k tree live r (finish words))

  abbrev Fetches : Option Request → List ℕ → Type 0
  Fetches w words = (rack_number (world_of w) words ≡ 0) ⊎ ((rack_number (world_of w) words ≡ 11) × TooFew k.sizes w q (finish words))

  refused-plays : (w : Option Request) → k.waiting ≡ w → (words : List ℕ) (n : ℕ) → finish_number (world_of w) (shown (world_of w) words) ≡ n → (n ≡ 0 → ⊥)
      → first_given (entry_table k (length words)) ≡ n → Fetches w words → Played w (finish words) (step (world_of w) (finish words))
  unfolding step
  refused-plays w e words n given h why fetch =
      subst (Played w (finish words)) (finish-refused (world_of w) words n given h)
      (record {
        rack = record { fetch = fetch; store = refl };
        card = inl (refused_as k.sizes (world_of w) w q (finish words) _ n refl refl h (sym why ∙ told w e words));
      })

  -- ---- none waits: 3; no bucket is fetched
  module _ (idle : k.waiting ≡ None) (words : List ℕ) where
    none-outside : any_outside k.sizes.h (numbers no_buckets) ≡ false
    unfolding any_outside
    none-outside = refl

    idle-fetch : rack_number (world_of None) words ≡ 0
    idle-fetch =
        laid-passes no_buckets places k.sizes.h k.sizes.z (length tree) (length words) (tree-range k.sizes r.heap.sizes) r.heap.words
        none-outside (omega arith)

    idle-plays : Played None (finish words) (step (world_of None) (finish words))
    idle-plays =
        let ws = shown (world_of None) words in
        refused-plays None idle words 3 (entry-decides k ws 3 (sym (none-waits k (length ws) fine idle)) (omega arith)) (omega arith)
        (none-waits k (length words) fine idle) (inl idle-fetch)

  -- ---- a request waits
  module _ (a : Request) (busy : k.waiting ≡ Some a) (word : WordKey a) where
    abbrev u : World
    u = world_of (Some a)

    -- too few words: 11
    short-plays : (words : List ℕ) → length words < words_needed k a → Played (Some a) (finish words) (step u (finish words))
    short-plays words few =
        let short = rack-short k tree places live r a busy words few in
        let same : shown u words ≡ words = rw short in
        let number = words-short k (length words) a fine busy few in
        refused-plays (Some a) busy words 11 (rw same (entry-decides k words 11 (sym number) (omega arith))) (omega arith) number
        (inr (short, subst (λ (p : Parts). length words < words_asked p.sizes (job_of p a)) (parts-told k tree live r) few))

    -- else it is done
    module _ (words : List ℕ) (room : words_needed k a ≤ length words) where
      done-plays : Played (Some a) (finish words) (served_by k tree a words)
      done-plays =
          record {
            rack = record { fetch = inl refl; store = refl };
            card = inr (record {
              answers = record {
                passes = finished-number k a (work_left k tree a words);
                why = sym (told (Some a) busy words) ∙ words-enough k (length words) a fine busy room;
                same = finish-says k tree live r a busy words;
              };
              holds = record {
                stands = record {
                  sizes = refl;
                  waiting = refl;
                  live = live_after (parts_of k) live a;
                  ready = finish-ready k tree words live r a busy word;
                  events = next-events k tree live r a busy;
                  taken = next-taken k.t live a;
                };
                word = tt;
                places = [];
                list = refl;
                counts = refl;
              };
            });
          }

      finished-plays : Played (Some a) (finish words) (step u (finish words))
      unfolding step
      finished-plays = subst (Played (Some a) (finish words)) (sym (finish-ends k tree places live r a busy word words room)) done-plays

    busy-plays : (words : List ℕ) → Played (Some a) (finish words) (step u (finish words))
    busy-plays words = elim (dichotomy (ltb (length words) (words_needed k a))) [
      | inl f ↦ finished-plays words (ltb-false _ _ f)
      | inr t ↦ short-plays words (ltb-true _ _ t)
    ]

  pub plays-finish : (w : Option Request) → k.waiting ≡ w → Worded w → (words : List ℕ) → Played w (finish words) (step (world_of w) (finish words))
  plays-finish None idle word words = idle-plays idle words
  plays-finish (Some a) busy word words = busy-plays a busy word words
