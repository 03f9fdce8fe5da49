-- One line on a desk that holds a queue, or none: what it comes to, and what the desk holds then. Assumes nothing.
use Prim.Native.Nat.{ℕ}
use mathlib.Core.Bool.{true}
use mathlib.Core.List.{List, []}
use mathlib.Core.Logic.{inl, inr}
use mathlib.Core.Option.{Option, none, some}
use mathlib.Core.Path.{◌≡◌, refl, sym, ap, ◌∙◌, subst}
use mathlib.Mathlib.Data.Bool.Basic.{dichotomy}
use native.Mathlib.Omega.{arith}
use lib.Dec.{eqb}
use lib.ListN.{length, length-map, drop}
use borrow.Author.Tests.{eqb-true, eqb-false, eq-eqb, ne_eqb}
use Rattle.std.specs.Prelude.{None}
use Rattle.lists.specs.BucketList.{words_moved, sum}
use Rattle.path.specs.declared.sizes.Sizes.{Sizes}
use Rattle.path.specs.Sizes.{sizes_of, in_range}
use Rattle.path.specs.Layout.{fresh_tree}
use Rattle.refusal.specs.Refusal.{first_given}
use Rattle.parts.specs.declared.Parts.{Parts}
use Rattle.card.specs.declared.Card.{Card}
use Rattle.answers.specs.declared.Answer.TheVariants.{Least, Refused}
use Rattle.request.specs.declared.Request.{Request}
use Rattle.request.specs.Tables.{request_rows, waits}
use Rattle.card.specs.Tables.{request_table}
use Rattle.checks.specs.Checks.{call_rows}
use Rattle.card.specs.Answers.{refused, or_refused}
use Rattle.card.specs.Calls.{call_table, fresh_card, found_min}
use Rattle.served.proofs.CallLaws.{start-ready, ready-card}
use Rattle.served.proofs.FinishedLaws.{WordKey}
use Rattle.demands.specs.Queue.{Queue, find_min, empty_queue, least_event, next, told}
use Rattle.demands.specs.Says.{event_of, asks}
use Rattle.demands.specs.Refusals.{parts_told}
use Rattle.demands.proofs.AnswerLaws.{least-told, parts-told}
use Rattle.lines.specs.declared.Line.{Line}
use Rattle.lines.specs.declared.Line.TheVariants.{Unreadable, Size, Min, Ask}
use Rattle.steps.specs.declared.Turn.{Turn}
use Rattle.steps.specs.Step.{Desk, LineLeft, nothing, tells, kept, fresh, sized_to, too_large, tree_words_used, head, played, asked_for, min_done, min_of, step_of}
use Rattle.steady.specs.Steady.{refusals, Holds, Keeps, Unheard, unreadable, early, large, Turns, ignored, mis_sized, sized_anew, refused_with, answered}
use Rattle.steady.proofs.HeldLaws.{own-head, own-queue, round-refused, round-sizes, round-says, round-numbered, round-holds}

-- a line played: what it comes to, and that the desk keeps what is then held
pub record Played (desk : Desk) (tree : List ℕ) (q : Option Queue) (line : Line) (l : LineLeft) : Type 0 where
  pub held : Option Queue
  pub turns : Turns desk tree q line l held
  pub keeps : Keeps l.turn.desk l.tree held

-- ---- `size`
module _ (desk : Desk) (tree : List ℕ) (q : Option Queue) (k : Keeps desk tree q) where
  stays : {line : Line} {l : LineLeft} → Unheard (length tree) q line → l ≡ nothing desk tree → Played desk tree q line l
  stays u e = record { held = q; turns = ignored u e; keeps = rw e k }

  module _ (h z r t : ℕ) where
    abbrev s : Sizes
    s = sizes_of h z r t

    fresh_keeps : in_range s ≡ true → Keeps (fresh desk tree s).turn.desk (fresh desk tree s).tree (some empty_queue)
    unfolding waits
    fresh_keeps e =
        let r = start-ready s e in
        record {
          card = fresh_card s;
          sized = refl;
          live = [];
          ready = rw (own-head (fresh_card s) (fresh_tree h z) (drop (tree_words_used h z) tree) e r.heap.words) r;
          idle = refl;
          events = refl;
          taken = refl;
        }

    pub size-line : Played desk tree q (Size h z r t) (sized_to desk tree s)
    unfolding sized_to
    size-line = elim (dichotomy (in_range s)) [
      | inl f ↦ rw f (record { held = q; turns = mis_sized h z r t refl f refl; keeps = k })
      | inr e ↦ elim (dichotomy (too_large (length tree) s)) [
        | inl f ↦ rw (e, f) (record { held = some empty_queue; turns = sized_anew h z r t (fresh_card s) refl e f refl refl refl; keeps = fresh_keeps e })
        | inr l ↦ rw (e, l) (stays (large e l) refl)
      ]
    ]

-- ---- a line that asks something of the card
module _ (desk : Desk) (tree : List ℕ) (q : Queue) (h : Holds desk tree q) where
  abbrev k : Card
  k = h.card

  asked-played : (w : Request) → played k tree w ≡ asked_for desk tree w
  unfolding asked_for
  asked-played w = sym (ap (λ (d : Desk). asked_for d tree w) h.sized)

  -- the rows of a request, in the queue's words
  events-counted : k.c ≡ length q.events
  events-counted = h.ready.heap.count ∙ sym (length-map h.live event_of) ∙ ap length h.events

  module _ (w : Request) (word : WordKey w) where
    own-number : first_given (request_table k w) ≡ first_given (refusals k q (Ask w))
    own-number =
        ap (λ (p : Parts). first_given (request_rows p k.root w))
        (parts-told k (head k tree) h.live h.ready ∙ ap (parts_told k.sizes) (own-queue desk tree q h))

    -- refused by the first of its own rows that is given, or answered
    played-line : Played desk tree (some q) (Ask w) (played k tree w)
    played-line = elim (dichotomy (eqb (first_given (request_table k w)) 0)) [
      | inl f ↦
          let n = eqb-false _ _ f in
          let e = round-refused desk tree q h w word n in
          record {
            held = some q;
            turns =
                refused_with q k refl h.sized (λ z. n (own-number ∙ z))
                (e ∙ ap (λ (m : ℕ). record { turn = kept desk (Refused m); tree = tree }) own-number);
            keeps = subst (λ (l : LineLeft). Keeps l.turn.desk l.tree (some q)) (sym e) h;
          }
      | inr e ↦
          let n = eqb-true _ _ e in
          record {
            held = some (next q (asks w));
            turns =
                answered q (asks w) _ k _ refl refl h.sized (sym own-number ∙ n) refl (round-sizes desk tree q h w word n) refl (round-numbered desk tree q h w word n)
                (round-says desk tree q h w word n);
            keeps = round-holds desk tree q h w word n;
          }
    ]

    asked-line : Played desk tree (some q) (Ask w) (asked_for desk tree w)
    asked-line = subst (Played desk tree (some q) (Ask w)) (asked-played w) played-line

  -- ---- `min`
  min-told : min_of desk ≡ tells (min_done k)
  unfolding min_of
  min-told = ap min_of h.sized

  none-least : k.c ≡ 0 → min_done k ≡ refused k 8
  unfolding call_table call_rows first_given or_refused
  none-least e = rw (ready-card k (head k tree) h.live h.ready, h.idle, eq-eqb k.c 0 e)

  some-least : (k.c ≡ 0 → ⊥) → min_done k ≡ found_min k
  unfolding call_table call_rows first_given or_refused
  some-least n = rw (ready-card k (head k tree) h.live h.ready, h.idle, ne_eqb k.c 0 n)

  min-empty : k.c ≡ 0 → min_of desk ≡ kept desk (Refused 8)
  min-empty e = min-told ∙ ap tells (none-least e) ∙ ap (λ (d : Desk). kept d (Refused 8)) (sym h.sized)

  min-found : (k.c ≡ 0 → ⊥) → min_of desk ≡ kept desk (Least k.least 0)
  unfolding words_moved sum
  min-found n = min-told ∙ ap tells (some-least n) ∙ ap (λ (d : Desk). kept d (Least k.least 0)) (sym h.sized)

  given-eight : length q.events ≡ 0 → first_given (refusals k q Min) ≡ 8
  unfolding first_given
  given-eight e = rw e

  given-none : (length q.events ≡ 0 → ⊥) → first_given (refusals k q Min) ≡ 0
  unfolding first_given
  given-none n = rw (ne_eqb (length q.events) 0 n)

  min-line : Played desk tree (some q) Min (record { turn = min_of desk; tree = tree })
  min-line = elim (dichotomy (eqb k.c 0)) [
    | inl f ↦
        let n = eqb-false _ _ f in
        let e = min-found n in
        record {
          held = some q;
          turns =
              answered q find_min (Least k.least 0) k k refl refl h.sized (given-none (λ z. n (events-counted ∙ z))) (ap (λ (t : Turn). t.desk) e ∙ h.sized) refl (ap (λ (t : Turn). t.reply) e) refl
              (ap told (sym (least-told k (head k tree) h.live h.ready (omega (arith, n))) ∙ ap least_event h.events));
          keeps = rw e h;
        }
    | inr t ↦
        let z = eqb-true _ _ t in
        let e = min-empty z in
        let eight : first_given (refusals k q Min) ≡ 8 = given-eight (sym events-counted ∙ z) in
        record {
          held = some q;
          turns =
              refused_with q k refl h.sized (λ n. omega (arith, eight, n))
              (rw eight (ap (λ (u : Turn). record { turn = u; tree = tree }) e));
          keeps = rw e h;
        }
  ]

-- an Insert's key is a 64-bit number
abbrev pub WordLine : Line → Type 0
WordLine Unreadable = Unit {0}
WordLine (Size h z r t) = Unit {0}
WordLine Min = Unit {0}
WordLine (Ask r) = WordKey r

module _ (desk : Desk) (tree : List ℕ) where
  pub held-line : (q : Queue) → Holds desk tree q → (line : Line) → WordLine line → Played desk tree (some q) line (step_of desk line tree)
  unfolding step_of
  held-line q h Unreadable word = stays desk tree (some q) h unreadable refl
  held-line q h (Size height z r t) word = size-line desk tree (some q) h height z r t
  held-line q h Min word = min-line desk tree q h
  held-line q h (Ask r) word = asked-line desk tree q h r word

  -- before any accepted `size`
  early-line : desk ≡ None → (line : Line) → Played desk tree none line (step_of desk line tree)
  unfolding step_of asked_for min_of
  early-line e Unreadable = stays desk tree none e unreadable refl
  early-line e (Size height z r t) = size-line desk tree none e height z r t
  early-line e Min = stays desk tree none e (early refl) (rw e)
  early-line e (Ask r) = stays desk tree none e (early refl) (rw e)

  pub one_line : (q : Option Queue) → Keeps desk tree q → (line : Line) → WordLine line → Played desk tree q line (step_of desk line tree)
  one_line none k line word = early-line k line
  one_line (some q) k line word = held-line q k line word
