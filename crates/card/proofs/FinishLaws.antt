-- What a finish that is not refused at once tells: a good card, a request that waits, words enough. Assumes nothing.
use Prim.Native.Nat.{ℕ, ◌≤◌, ◌<◌}
use mathlib.Core.Bool.{false, true≢false}
use mathlib.Core.List.{List}
use mathlib.Core.Path.{◌≡◌, refl, sym, subst, ◌∙◌}
use native.Mathlib.Omega.{arith}
use lib.ListN.{length}
use borrow.Author.Tests.{lt-ltb, le-ltb, ltb-false}
use Rattle.std.specs.Prelude.{Option, None, Some}
use Rattle.path.specs.Sizes.{leaves_of}
use Rattle.path.proofs.SizesLaws.{in-range}
use Rattle.lists.specs.declared.Listed.{Listed as Counts}
use Rattle.lists.specs.BucketList.{fetched_for}
use Rattle.refusal.specs.Refusal.{first_given}
use Rattle.refusal.proofs.RefusalLaws.{none-given, Numbered, none, next}
use Rattle.parts.specs.declared.Parts.{Parts}
use Rattle.request.specs.declared.Request.{Request}
use Rattle.request.specs.declared.job.Job.{Job}
use Rattle.request.specs.declared.job.Job.TheVariants.{Path, Pair}
use Rattle.request.specs.Tables.{waits}
use Rattle.request.specs.Job.{job_of}
use Rattle.listing.specs.Listing.{LeavesWithin}
use Rattle.listing.proofs.ListingLaws.{counts_for, counts-for}
use Rattle.settle.specs.Room.{Fits}
use Rattle.finishes.specs.Finishes.{Finishable}
use Rattle.checks.specs.Checks.{short_rows, call_rows}
use Rattle.card.specs.declared.Card.{Card}
use Rattle.card.specs.Tables.{leaves_in, parts_of, request_table}
use Rattle.card.specs.BadCard.{bad_card}
use Rattle.card.specs.Calls.{call_table}
use Rattle.card.specs.Finish.{words_needed, entry_table}
use Rattle.card.proofs.GoodLaws.{Good, good}
use Rattle.card.proofs.BeginLaws.{leaves-within}

module _ (k : Card) (room : ℕ) where
  short-numbered : (w : Option Request) → Numbered (short_rows (parts_of k) w room)
  short-numbered None = none
  short-numbered (Some r) = next 11 (omega arith) none

  pub entry-numbered : Numbered (entry_table k room)
  unfolding call_table call_rows
  entry-numbered = next 13 (omega arith) (next 3 (omega arith) (short-numbered k.waiting))

  -- a good card on which none waits
  pub none-waits : bad_card k ≡ false → k.waiting ≡ None → first_given (entry_table k room) ≡ 3
  unfolding call_table call_rows first_given waits
  none-waits fine idle = rw (fine, idle)

  -- a good card on which a request waits: only the room decides
  module _ (r : Request) (fine : bad_card k ≡ false) (busy : k.waiting ≡ Some r) where
    pub words-short : room < words_needed k r → first_given (entry_table k room) ≡ 11
    unfolding call_table call_rows first_given waits
    words-short l = rw (fine, busy, lt-ltb _ _ l)

    pub words-enough : words_needed k r ≤ room → first_given (entry_table k room) ≡ 0
    unfolding call_table call_rows first_given waits
    words-enough l = rw (fine, busy, le-ltb _ _ l)

  -- some request waits
  pub some-waits : first_given (entry_table k room) ≡ 0 → k.waiting ≡ None → ⊥
  unfolding call_table call_rows waits
  some-waits e idle =
      let a = none-given 13 (bad_card k) _ (omega arith) e in
      true≢false (rw idle at (none-given 3 _ _ (omega arith) a.1).0)

  -- the request that waits is within its rules, and its words are there
  pub record Entered (r : Request) : Type 0 where
    pub card : Good k
    pub request : first_given (request_table k r) ≡ 0
    pub words : words_needed k r ≤ room

  pub entered : (r : Request) → k.waiting ≡ Some r → first_given (entry_table k room) ≡ 0 → Entered r
  unfolding call_table call_rows
  entered r busy e =
      let a = none-given 13 (bad_card k) _ (omega arith) e in
      let b = none-given 3 _ _ (omega arith) a.1 in
      let d = none-given 11 _ _ (omega arith) (rw busy at b.1) in
      record {
        card = good k a.0;
        request = rw busy at (good k a.0).waiting;
        words = ltb-false _ _ d.0;
      }

-- what a finish asks of the card's parts
parts-fit : (k : Card) → Good k → Fits (parts_of k)
parts-fit k g =
    let i = in-range k.sizes g.parts.sizes in
    record {
      sizes = record { height = i.tree.height; width = i.tree.slots.1; roots = i.roots.1 };
      counts = (omega (arith, g.parts.spent, i.most), omega (arith, g.parts.live, i.most));
    }

pub clock-fits : (k : Card) → Good k → k.t ≤ 4294967295
clock-fits k g = (parts-fit k g).counts.0

-- so the finish of a job has what it asks for
job-ready : (p : Parts) (n : ℕ) (ws : List ℕ) (j : Job) → Fits p → LeavesWithin n j → fetched_for p.sizes.z (counts_for p.sizes.h j) ≤ length ws
    → n ≡ leaves_of p.sizes.h → Finishable p j ws
unfolding counts_for
job-ready p n ws (Path leaf label stamp) fits inside words e = record { parts = fits; leaf = rw e at inside; fetched = omega arith }
job-ready p n ws (Pair first second new) fits inside words e =
    record { parts = fits; lower = rw e at inside.0; upper = rw e at inside.1; fetched = omega arith }

pub request-ready : (k : Card) (ws : List ℕ) (r : Request) → Entered k (length ws) r → Finishable (parts_of k) (job_of (parts_of k) r) ws
request-ready k ws r n =
    let high = (in-range k.sizes n.card.parts.sizes).tree.height.0 in
    job-ready (parts_of k) (leaves_in k) ws (job_of (parts_of k) r) (parts-fit k n.card) (leaves-within k r n.card n.request)
    (subst (λ (m : Counts). fetched_for k.sizes.z m ≤ length ws) (counts-for k.sizes.h (job_of (parts_of k) r) high) n.words) refl

-- told by the number that the checks gave
module _ (k : Card) (ws : List ℕ) (r : Request) (busy : k.waiting ≡ Some r) (n : ℕ) (e : n ≡ first_given (entry_table k (length ws))) (z : n ≡ 0) where
  pub checked-ready : Finishable (parts_of k) (job_of (parts_of k) r) ws
  checked-ready = request-ready k ws r (entered k (length ws) r busy (sym e ∙ z))

  pub checked-clock : k.t ≤ 4294967295
  checked-clock = clock-fits k (entered k (length ws) r busy (sym e ∙ z)).card
