-- The desk beside the plain queue: document 01, "The desk program reads lines and plays both sides." Whatever lines come, each is
-- answered as the queue answers it, or changes nothing. Proved as `steady` in proofs/SteadyLaws.antt. Assumes nothing.
use Rattle.std.specs.Prelude.{ℕ, Bool, true, false, Some, None, List, [], ◌∷◌, map, ◌≡◌, eqb, length}
use Rattle.std.proofs.Math.Option.{Option, none, some}
use Rattle.record.specs.declared.Record.{Record}
use Rattle.path.specs.Sizes.{sizes_of, in_range}
use Rattle.refusal.specs.Refusal.{Refusal, row, first_given}
use Rattle.request.specs.Tables.{request_rows, waits}
use Rattle.card.specs.declared.Card.{Card}
use Rattle.answers.specs.declared.Answer.{Answer}
use Rattle.answers.specs.declared.Answer.TheVariants.{Started, Refused}
use Rattle.answers.specs.Answers.{number_of}
use Rattle.served.specs.Ready.{Ready}
use Rattle.demands.specs.Queue.{Queue, Operation, find_min, empty_queue, reply, next}
use Rattle.demands.specs.Refusals.{parts_told}
use Rattle.demands.specs.Says.{event_of, asks, says}
use Rattle.lines.specs.declared.Line.{Line}
use Rattle.lines.specs.declared.Line.TheVariants.{Unreadable, Size, Min, Ask}
use Rattle.steps.specs.Step.{Desk, LineLeft, nothing, kept, head, too_large, step_of}

-- what a line asks of the queue: a `size` asks nothing of the one that was
abbrev pub wants : Line → Option Operation
wants Unreadable = none
wants (Size h z r t) = none
wants Min = some find_min
wants (Ask r) = some (asks r)

-- "A refusal prints its number": those that a line can meet, in their order, on the parts that the queue tells of a card; sizes and
-- root are the card's. Neither 2 nor 3, and none of 11 to 14
abbrev pub refusals : Card → Queue → Line → List Refusal
refusals k q Unreadable = []
refusals k q (Size h z r t) = []
refusals k q Min = row 8 (eqb (length q.events) 0) ∷ []
refusals k q (Ask r) = request_rows (parts_told k.sizes q) k.root r

-- ---- between two lines
-- the desk holds this queue: card and tree hold a good heap of its events, and no request waits
pub record Holds (desk : Desk) (tree : List ℕ) (q : Queue) : Type 0 where
  pub card : Card
  pub sized : desk ≡ Some card
  pub live : List Record
  pub ready : Ready card (head card tree) live
  pub idle : waits card.waiting ≡ false
  pub events : map event_of live ≡ q.events
  pub taken : card.t ≡ q.taken

-- and none before a `size` was accepted
abbrev pub Keeps : Desk → List ℕ → Option Queue → Type 0
Keeps desk tree none = desk ≡ None
Keeps desk tree (some q) = Holds desk tree q

-- ---- one line
abbrev pub is_size : Line → Bool
is_size Unreadable = false
is_size (Size h z r t) = true
is_size Min = false
is_size (Ask r) = false

-- "A line it can't read, .. one other than `size` before any accepted `size`, or a `size` within its ranges whose tree is over 8,192
-- words" (or over what is lent)
pub data Unheard (lent : ℕ) : Option Queue → Line → Type 0 where
  unreadable : {q : Option Queue} → Unheard lent q Unreadable
  early : {line : Line} → is_size line ≡ false → Unheard lent none line
  large :
      {q : Option Queue} {h z r t : ℕ} → in_range (sizes_of h z r t) ≡ true → too_large lent (sizes_of h z r t) ≡ true
      → Unheard lent q (Size h z r t)

module _ (desk : Desk) (tree : List ℕ) (q : Option Queue) (line : Line) (l : LineLeft) where
  -- what is left of it, and the queue that is held then
  pub data Turns : Option Queue → Type 0 where
    -- `?`, and nothing changes
    ignored : Unheard (length tree) q line → l ≡ nothing desk tree → Turns q
    -- a `size` out of its ranges: 1, and nothing changes
    mis_sized :
        (h z r t : ℕ) → line ≡ Size h z r t → in_range (sizes_of h z r t) ≡ false
        → l ≡ record { turn = kept desk (Refused 1); tree = tree } → Turns q
    -- "`size h Z R T` starts afresh", with these sizes
    sized_anew :
        (h z r t : ℕ) (k : Card) → line ≡ Size h z r t → in_range (sizes_of h z r t) ≡ true → too_large (length tree) (sizes_of h z r t) ≡ false
        → l.turn.desk ≡ Some k → k.sizes ≡ sizes_of h z r t → l.turn.reply ≡ Some Started → Turns (some empty_queue)
    -- the first of the line's refusals that is given, and nothing changes
    refused_with :
        (p : Queue) (k : Card) → q ≡ some p → desk ≡ Some k → (first_given (refusals k p line) ≡ 0 → ⊥)
        → l ≡ record { turn = kept desk (Refused (first_given (refusals k p line))); tree = tree } → Turns q
    -- where none is given: as the queue answers, and the sizes stay
    answered :
        (p : Queue) (w : Operation) (a : Answer) (k j : Card) → q ≡ some p → wants line ≡ some w → desk ≡ Some k
        → first_given (refusals k p line) ≡ 0 → l.turn.desk ≡ Some j → j.sizes ≡ k.sizes → l.turn.reply ≡ Some a → number_of a ≡ 0
        → says a ≡ reply p w → Turns (some (next p w))

-- ---- every list of lines
pub data SitsBeside : Desk → List ℕ → Option Queue → List Line → Type 0 where
  ended : {desk : Desk} {tree : List ℕ} {q : Option Queue} → Keeps desk tree q → SitsBeside desk tree q []
  turned : {desk : Desk} {tree : List ℕ} {q p : Option Queue} {line : Line} {lines : List Line} → Keeps desk tree q
      → Turns desk tree q line (step_of desk line tree) p
      → SitsBeside (step_of desk line tree).turn.desk (step_of desk line tree).tree p lines → SitsBeside desk tree q (line ∷ lines)
