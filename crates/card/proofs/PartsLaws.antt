-- What is told of the parts that a card hands out, and of a request's job on them, is told of the card. Assumes nothing.
use Prim.Native.Nat.{ℕ}
use mathlib.Core.List.{List}
use mathlib.Core.Path.{◌≡◌, sym, subst}
use Rattle.std.specs.Prelude.{Result}
use Rattle.record.specs.declared.Record.{Record}
use Rattle.lists.specs.declared.Listed.{Listed as Counts}
use Rattle.lists.specs.BucketList.{Names, words_moved}
use Rattle.refusal.specs.Refusal.{first_given}
use Rattle.parts.specs.declared.Parts.{Parts}
use Rattle.request.specs.declared.Request.{Request}
use Rattle.request.specs.declared.job.Job.{Job}
use Rattle.request.specs.Job.{job_of}
use Rattle.listing.specs.Listing.{list_for, Listable}
use Rattle.settle.specs.declared.Damaged.{Damaged}
use Rattle.settle.specs.declared.Settled.{Settled}
use Rattle.settle.specs.Settled.{Settles}
use Rattle.finishes.specs.Finishes.{left_for, damaged_for, Finishable}
use Rattle.checks.specs.declared.Call.{Call}
use Rattle.checks.specs.Checks.{bad_with, call_rows}
use Rattle.card.specs.declared.Card.{Card}
use Rattle.card.specs.Tables.{parts_of}
use Rattle.card.specs.BadCard.{bad_card}
use Rattle.card.specs.Calls.{call_table}

-- what the finish of a job hands back
abbrev pub SettlesOn : List Record → List ℕ → List ℕ → Result Settled Damaged → Parts → Job → Type 0
SettlesOn root ws after out p j =
    Settles (damaged_for p root j ws) (left_for p root j ws) (words_moved p.sizes.z (list_for p.sizes.h j)) ws after out

module _ (k : Card) (p : Parts) (e : p ≡ parts_of k) where
  pub why-told : (call : Call) (n : ℕ) → n ≡ first_given (call_rows (bad_with p k.root k.waiting) p k.root k.waiting call)
      → n ≡ first_given (call_table k call)
  unfolding call_table bad_card
  why-told call n f = subst (λ (q : Parts). n ≡ first_given (call_rows (bad_with q k.root k.waiting) q k.root k.waiting call)) e f

  module _ (r : Request) (j : Job) (f : j ≡ job_of p r) where
    of-card : (P : Parts → Job → Type 0) → P p j → P (parts_of k) (job_of (parts_of k) r)
    of-card P x = subst (λ (q : Parts). P q (job_of q r)) e (subst (P p) f x)

    of_parts : (P : Parts → Job → Type 0) → P (parts_of k) (job_of (parts_of k) r) → P p j
    of_parts P x = subst (P p) (sym f) (subst (λ (q : Parts). P q (job_of q r)) (sym e) x)

    -- begin: what is asked of the list, and what it is
    pub listable-told : (room : ℕ) → Listable k.sizes (job_of (parts_of k) r) room → Listable k.sizes j room
    listable-told room = of_parts (λ q i. Listable k.sizes i room)

    pub named-told : (before after : List ℕ) (n : Counts) → Names (list_for k.sizes.h j) before after n
        → Names (list_for k.sizes.h (job_of (parts_of k) r)) before after n
    named-told before after n = of-card (λ q i. Names (list_for k.sizes.h i) before after n)

    -- finish: what is asked of the words, and what is handed back
    pub finishable-told : (ws : List ℕ) → Finishable (parts_of k) (job_of (parts_of k) r) ws → Finishable p j ws
    finishable-told ws = of_parts (λ q i. Finishable q i ws)

    pub settled-told : (ws after : List ℕ) (out : Result Settled Damaged) → SettlesOn k.root ws after out p j
        → SettlesOn k.root ws after out (parts_of k) (job_of (parts_of k) r)
    settled-told ws after out = of-card (SettlesOn k.root ws after out)
