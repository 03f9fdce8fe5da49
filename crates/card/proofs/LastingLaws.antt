-- What a finish that is not refused hands back, whatever words were lent: the card is no BadCard, and ExtractMin has taken out the
-- root's least record. No honest rack is asked for: the fourth clause of Damaged sees to it. Assumes nothing.
use Prim.Native.Nat.{ℕ, zero, suc}
use mathlib.Core.Bool.{true, false}
use mathlib.Core.List.{List, []}
use mathlib.Core.Path.{◌≡◌, refl, sym, subst}
use mathlib.Mathlib.Data.Bool.Basic.{or-eq-false-eq-eq-false-and-eq-false as neither}
use native.Mathlib.Omega.{arith}
use lib.ListN.{length}
use Rattle.std.specs.Prelude.{Option, None, Some}
use Rattle.record.specs.declared.Record.{Record}
use Rattle.record.specs.Standing.{same}
use Rattle.refusal.specs.Refusal.{first_given}
use Rattle.refusal.proofs.RefusalLaws.{none-given, append-none}
use Rattle.parts.specs.declared.Parts.{Parts}
use Rattle.request.specs.declared.Request.{Request}
use Rattle.request.specs.declared.Request.TheVariants.{Extract}
use Rattle.request.specs.declared.job.Job.{Job}
use Rattle.request.specs.declared.job.Job.TheVariants.{Path, Pair}
use Rattle.request.specs.Job.{job_of}
use Rattle.settle.specs.Left.{path_bad, pair_bad, bad_left, removal_damaged, insertion_damaged}
use Rattle.removal.proofs.ExtractLaws.{extract-damaged, extract-same, extract-found}
use Rattle.finishes.specs.Finishes.{left_for, damaged_for}
use Rattle.card.specs.declared.Card.{Card}
use Rattle.card.specs.declared.Done.{Done}
use Rattle.card.specs.Tables.{parts_of}
use Rattle.card.specs.BadCard.{bad_card}
use Rattle.card.specs.Answers.{or_refused}
use Rattle.card.specs.Calls.{fresh_card, with_waiting, begun, withdrawn, found_min}
use Rattle.card.specs.Lasting.{Reached, start, begin, finish, withdraw, find_min}
use Rattle.card.specs.Finish.{left_by, damaged_by, entry_table, damaged_rows, finish_table, finished_by, finished_for, finished, least_taken}
use Rattle.card.proofs.GoodLaws.{good, good-card}
use Rattle.card.proofs.BeginLaws.{accepted, extractable, least-proper}
use Rattle.card.proofs.CallLaws.{fresh-good, begun-good, withdrawn-good}
use Rattle.card.proofs.FinishLaws.{entry-numbered, some-waits, entered, request-ready}

-- the fourth clause of Damaged: what would come out is no BadCard
left-fits : (p : Parts) (root : List Record) (j : Job) (ws : List ℕ) → damaged_for p root j ws ≡ false → bad_left p (left_for p root j ws) ≡ false
unfolding removal_damaged insertion_damaged
left-fits p root (Path leaf label stamp) ws e = ((neither (path_bad p root ws leaf) _).0 e).1
left-fits p root (Pair first second new) ws e = ((neither (pair_bad p root ws first second) _).0 e).1

-- ExtractMin's 12 is given exactly where the removal of "the root's least record", in all four numbers, is Damaged
pub extracts-damaged : (k : Card) (ws : List ℕ) → length k.root ≡ 64 → k.waiting ≡ Some Extract → first_given (entry_table k (length ws)) ≡ 0
    → damaged_by k Extract ws ≡ removal_damaged (parts_of k) k.root ws k.least.label (same k.least)
unfolding damaged_by
extracts-damaged k ws long busy entry =
    let n = entered k (length ws) Extract busy entry in
    let room = request-ready k ws Extract n in
    extract-damaged (parts_of k) k.root ws (omega (arith, long, room.parts.sizes.roots)) (least-proper k n.card (extractable k n.request).some) room

module _ (k : Card) (ws : List ℕ) (passes : first_given (finish_table k ws) ≡ 0) where
  entry : first_given (entry_table k (length ws)) ≡ 0
  entry = (append-none _ (entry-numbered k (length ws)) passes).0

  damaged-none : (w : Option Request) → k.waiting ≡ w → first_given (damaged_rows k w ws) ≡ 0
  damaged-none w e = subst (λ (v : Option Request). first_given (damaged_rows k v ws) ≡ 0) e (append-none _ (entry-numbered k (length ws)) passes).1

  undamaged : (r : Request) → k.waiting ≡ Some r → damaged_by k r ws ≡ false
  undamaged r busy = (none-given 12 _ [] (omega arith) (damaged-none (Some r) busy)).0

  -- by what waited
  card-lasts : (w : Option Request) → k.waiting ≡ w → bad_card (finished_for k w ws).card ≡ false
  unfolding bad_card finished_by damaged_by left_by first_given
  card-lasts None idle = absurd (some-waits k (length ws) entry idle)
  card-lasts (Some r) busy = rw (left-fits (parts_of k) k.root (job_of (parts_of k) r) ws (undamaged r busy))

  pub finish-lasts : bad_card (finished k ws).card ≡ false
  finish-lasts = card-lasts k.waiting refl

  module _ (long : length k.root ≡ 64) (busy : k.waiting ≡ Some Extract) where
    -- "ExtractMin replaces the root's least record .. by the dummy": the record of its label and stamp is that one, all four numbers
    pub extracts-least : left_by k Extract ws ≡ least_taken k ws
    unfolding left_by damaged_by
    extracts-least =
        let n = entered k (length ws) Extract busy entry in
        let room = request-ready k ws Extract n in
        extract-same (parts_of k) k.root ws (omega (arith, long, room.parts.sizes.roots)) (least-proper k n.card (extractable k n.request).some) room
        (undamaged Extract busy)

    -- "wherever it is on the path"
    pub extracts-found : (left_by k Extract ws).found ≡ true
    unfolding left_by damaged_by
    extracts-found =
        let n = entered k (length ws) Extract busy entry in
        let room = request-ready k ws Extract n in
        extract-found (parts_of k) k.root ws (omega (arith, long, room.parts.sizes.roots)) (least-proper k n.card (extractable k n.request).some) room
        (undamaged Extract busy)

-- a call hands back the card as it came, or the one that it makes
handed-back : (P : Card → Type 0) (k : Card) (n : ℕ) (done d : Done) → d ≡ or_refused k n done → P k → (n ≡ 0 → P done.card) → P d.card
unfolding or_refused
handed-back P k zero done d e p q = subst (λ (x : Done). P x.card) (sym e) (q refl)
handed-back P k (suc n) done d e p q = subst (λ (x : Done). P x.card) (sym e) p

-- so no call on a card that was not forged ever gives 13, whatever words a rack hands over
abbrev Fine : Card → Type 0
Fine k = bad_card k ≡ false

pub never-bad : {k : Card} → Reached k → bad_card k ≡ false
never-bad (start s e) = good-card (fresh_card s) (fresh-good s e)
never-bad (begin {k} {r = w} {before} {after} {d} r b) =
    handed-back Fine k _ (begun k w) d b.call.whole (never-bad r)
    (λ none. good-card (with_waiting k (Some w)) (begun-good k w (length before) (accepted k w (length before) none)))
never-bad (finish {k} {before} {after} {d} r f) =
    handed-back Fine k _ (finished k before) d f.call.whole (never-bad r) (finish-lasts k before)
never-bad (withdraw {k} {d} r a) =
    handed-back Fine k _ (withdrawn k) d a.whole (never-bad r)
    (λ none. good-card (with_waiting k None) (withdrawn-good k (good k (never-bad r))))
never-bad (find_min {k} {d} r a) = handed-back Fine k _ (found_min k) d a.whole (never-bad r) (λ none. never-bad r)
