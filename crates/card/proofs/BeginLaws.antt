-- What a begin that is not refused tells: a good card, no request that waits, a request within its rules, room for its
-- list. Assumes nothing.
use Prim.Native.Nat.{ℕ, ◌/◌, ◌≤◌, ◌<◌}
use mathlib.Core.Bool.{true, false}
use mathlib.Core.List.{List, []}
use mathlib.Core.Logic.{inl, inr}
use mathlib.Mathlib.Data.Bool.Basic.{dichotomy, or-eq-false-eq-eq-false-and-eq-false as neither}
use mathlib.Core.Path.{◌≡◌, refl, sym, ◌∙◌}
use native.Mathlib.Omega.{arith}
use lib.Dec.{ltb}
use lib.ListN.{length}
use borrow.Author.Tests.{eqb-false, ne_eqb, leb-false, ltb-false, le-ltb, not-false}
use Rattle.record.specs.declared.Leaf.{Leaf}
use Rattle.record.specs.declared.Stamp.{Stamp}
use Rattle.record.proofs.StandingLaws.{proper-true}
use Rattle.record.specs.Standing.{dummy_key, known, is_dummy, is_proper, may_stand}
use Rattle.lists.specs.declared.Listed.{Listed as Counts}
use Rattle.lists.specs.BucketList.{Names}
use Rattle.path.proofs.SizesLaws.{in-range}
use Rattle.refusal.specs.Refusal.{first_given}
use Rattle.refusal.proofs.RefusalLaws.{none-given, append-none, left-before, left-done}
use Rattle.root.specs.Root.{root_full}
use Rattle.request.specs.declared.Request.{Request}
use Rattle.request.specs.declared.Request.TheVariants.{Insert, Extract, Delete}
use Rattle.request.specs.Tables.{bad_label, insert_rows, extract_rows, delete_rows, request_rows, waits}
use Rattle.request.specs.Job.{job_of}
use Rattle.request.proofs.RequestLaws.{request-numbered}
use Rattle.listing.specs.Listing.{list_for, places_asked, LeavesWithin, Listable}
use Rattle.parts.specs.Parts.{rule_of}
use Rattle.judge.specs.BadParts.{odd_least}
use Rattle.checks.specs.Checks.{busy_rows, call_rows}
use Rattle.checks.proofs.CheckLaws.{begin-fault, begin-room}
use Rattle.card.specs.declared.Card.{Card}
use Rattle.card.specs.Tables.{leaves_in, parts_of, request_table}
use Rattle.card.specs.BadCard.{bad_card}
use Rattle.card.specs.Answers.{refused}
use Rattle.card.specs.Calls.{call_table, list_of, begin_table, begun_with, begun, Begins}
use Rattle.card.proofs.AnswerLaws.{told-refused, told-done}
use Rattle.card.proofs.GoodLaws.{Good, good}

-- a begin on a good card on which none waits: the request's own refusal, or no room, or none
module _ (k : Card) (r : Request) (room : ℕ) (fine : bad_card k ≡ false) (idle : waits k.waiting ≡ false) where
  passes : 0 ≡ first_given (busy_rows (bad_card k) k.waiting)
  unfolding first_given
  passes = rw (fine, idle)

  pub request-refused : (first_given (request_table k r) ≡ 0 → ⊥)
      → first_given (begin_table k r room) ≡ first_given (request_table k r)
  unfolding call_table
  request-refused h = sym (begin-fault (bad_card k) (parts_of k) k.root k.waiting r room passes h refl)

  pub room-enough : first_given (request_table k r) ≡ 0 → places_asked k.sizes.h (job_of (parts_of k) r) ≤ room → first_given (begin_table k r room) ≡ 0
  unfolding call_table
  room-enough e l = begin-room (bad_card k) (parts_of k) k.root k.waiting r room passes (sym e) ∙ rw (le-ltb _ _ l)

-- a begin that is not refused
pub record Accepted (k : Card) (r : Request) (room : ℕ) : Type 0 where
  pub card : Good k
  pub idle : waits k.waiting ≡ false
  pub request : first_given (request_table k r) ≡ 0
  pub place : places_asked k.sizes.h (job_of (parts_of k) r) ≤ room

pub accepted : (k : Card) (r : Request) (room : ℕ) → first_given (begin_table k r room) ≡ 0 → Accepted k r room
unfolding call_table call_rows
accepted k r room e =
    let a = none-given 13 (bad_card k) _ (omega arith) e in
    let b = none-given 2 (waits k.waiting) _ (omega arith) a.1 in
    let c = append-none _ (request-numbered (parts_of k) k.root r) b.1 in
    let d = none-given 11 (ltb room (places_asked k.sizes.h (job_of (parts_of k) r))) [] (omega arith) c.1 in
    record { card = good k a.0; idle = b.0; request = c.0; place = ltb-false _ _ d.0 }

-- ---- a request within its rules
pub record Insertable (k : Card) (x : ℕ) (l f s : Leaf) : Type 0 where
  pub time : k.t ≡ k.sizes.t → ⊥
  pub key : x ≡ dummy_key → ⊥
  pub label : l.0 < leaves_in k
  pub first : f.0 < leaves_in k / 2
  pub second : (leaves_in k / 2 ≤ s.0) × (s.0 < leaves_in k)
  pub space : k.c ≡ leaves_in k → ⊥
  pub slot : root_full k.sizes.r k.root ≡ false

pub insertable :
    (k : Card) (key value : ℕ) (label first second : Leaf) → first_given (request_table k (Insert key value label first second)) ≡ 0
    → Insertable k key label first second
unfolding request_rows insert_rows
insertable k key value label first second e =
    let a = none-given 4 _ _ (omega arith) e in
    let b = none-given 5 _ _ (omega arith) a.1 in
    let c = none-given 6 _ _ (omega arith) b.1 in
    let d = none-given 9 _ _ (omega arith) c.1 in
    let f = none-given 10 _ _ (omega arith) d.1 in
    let l = (neither (bad_label (leaves_in k) label) _).0 c.0 in
    let m = (neither _ _).0 l.1 in
    let n = (neither _ _).0 m.1 in
    record {
      time = eqb-false _ _ a.0;
      key = eqb-false _ _ b.0;
      label = leb-false _ _ l.0;
      first = leb-false _ _ m.0;
      second = (ltb-false _ _ n.0, leb-false _ _ n.1);
      space = eqb-false _ _ d.0;
      slot = f.0;
    }

pub record Extractable (k : Card) : Type 0 where
  pub time : k.t ≡ k.sizes.t → ⊥
  pub some : k.c ≡ 0 → ⊥

pub extractable : (k : Card) → first_given (request_table k Extract) ≡ 0 → Extractable k
unfolding request_rows extract_rows
extractable k e =
    let a = none-given 4 _ _ (omega arith) e in
    let b = none-given 8 _ _ (omega arith) a.1 in
    record { time = eqb-false _ _ a.0; some = eqb-false _ _ b.0 }

pub record Deletable (k : Card) (l : Leaf) (s : Stamp) : Type 0 where
  pub time : k.t ≡ k.sizes.t → ⊥
  pub label : l.0 < leaves_in k
  pub stamp : known (rule_of (parts_of k)) s ≡ true

pub deletable : (k : Card) (label : Leaf) (stamp : Stamp) → first_given (request_table k (Delete label stamp)) ≡ 0
    → Deletable k label stamp
unfolding request_rows delete_rows
deletable k label stamp e =
    let a = none-given 4 _ _ (omega arith) e in
    let b = none-given 6 _ _ (omega arith) a.1 in
    let c = none-given 7 _ _ (omega arith) b.1 in
    record { time = eqb-false _ _ a.0; label = leb-false _ _ b.0; stamp = not-false _ c.0 }

-- the root's least record of a good card with live events is proper
pub least-proper : (k : Card) → Good k → (k.c ≡ 0 → ⊥) → is_proper (rule_of (parts_of k)) k.least ≡ true
unfolding odd_least may_stand
least-proper k g h = elim (dichotomy (is_dummy k.least)) [
  | inl f ↦
      let o = rw (f, ne_eqb k.c 0 h) at g.parts.odd in
      not-false _ o
  | inr t ↦
      let o = rw t at g.parts.odd in
      absurd (h (omega (arith, ltb-false 0 k.c ((neither _ _).0 o).0)))
]

-- a list that may be laid
pub leaves-within : (k : Card) (r : Request) → Good k → first_given (request_table k r) ≡ 0 → LeavesWithin (leaves_in k) (job_of (parts_of k) r)
leaves-within k (Insert key value label first second) g e =
    let d = insertable k key value label first second e in
    (omega (arith, d.first), d.second.1)
leaves-within k Extract g e = (proper-true _ _ (least-proper k g (extractable k e).some)).label
leaves-within k (Delete label stamp) g e = (deletable k label stamp e).label

pub listable : (k : Card) (r : Request) (room : ℕ) → Accepted k r room → Listable k.sizes (job_of (parts_of k) r) room
listable k r room b =
    record {
      height = (in-range k.sizes b.card.parts.sizes).tree.height;
      leaves = leaves-within k r b.card b.request;
      place = b.place;
    }

-- ---- what a begin answers, told by the number that the checks gave
module _ (k : Card) (r : Request) (before : List ℕ) (number : ℕ) (why : number ≡ first_given (begin_table k r (length before))) where
  pub may-list : number ≡ 0 → Listable k.sizes (job_of (parts_of k) r) (length before)
  may-list z = listable k r (length before) (accepted k r (length before) (sym why ∙ z))

  pub begin-refused : (number ≡ 0 → ⊥) → Begins k r before before (refused k number)
  begin-refused h =
      record { call = told-refused k number _ (begun k r) why h; places = rw (← why) (sym (left-before number _ before h)) }

  pub begin-done : (after : List ℕ) (n : Counts) → number ≡ 0 → Names (list_for k.sizes.h (job_of (parts_of k) r)) before after n
      → Begins k r before after (begun_with k r n)
  unfolding list_of
  begin-done after n h l =
      record {
        call = rw l.counted (told-done k number _ (begun k r) why h refl);
        places = rw (← why) (l.places ∙ sym (left-done number _ before h));
      }
