-- A ready card is no BadCard; a start, a begin and a withdraw leave it ready, and FindMin answers the least of all live
-- events. Assumes nothing.
use Prim.Native.Nat.{ℕ}
use mathlib.Core.Bool.{true, false}
use mathlib.Core.List.{List, []}
use mathlib.Core.Path.{◌≡◌, refl, subst}
use borrow.Author.Tests.{eq-eqb}
use Rattle.std.specs.Prelude.{Option, None, Some}
use Rattle.record.specs.declared.Record.{Record}
use Rattle.record.specs.Order.{smallest}
use Rattle.path.specs.declared.sizes.Sizes.{Sizes}
use Rattle.path.specs.Sizes.{in_range}
use Rattle.path.specs.Layout.{fresh_tree}
use Rattle.refusal.specs.Refusal.{first_given}
use Rattle.parts.specs.Parts.{rule_of}
use Rattle.card.specs.declared.Card.{Card}
use Rattle.request.specs.declared.Request.{Request}
use Rattle.card.specs.Tables.{parts_of, request_table, waiting_table}
use Rattle.card.specs.BadCard.{bad_card}
use Rattle.card.specs.Calls.{fresh_card, with_waiting}
use Rattle.good.proofs.FewLaws.{heap-card}
use Rattle.good.proofs.FreshLaws.{fresh-heap}
use Rattle.good.proofs.FoundLaws.{heap-least}
use Rattle.served.specs.Ready.{Ready}

-- no request waits, so there is none to refuse
pub none-waits : (k : Card) → first_given (waiting_table k None) ≡ 0
unfolding first_given
none-waits k = refl

-- "BadCard", denied: no call on a ready card gives 13
pub ready-card : (k : Card) (tree : List ℕ) (live : List Record) → Ready k tree live → bad_card k ≡ false
unfolding bad_card
ready-card k tree live r =
    rw (heap-card (parts_of k) k.root tree live r.heap, eq-eqb (first_given (waiting_table k k.waiting)) 0 r.waiting)

-- a fresh card and a filled tree
pub start-ready : (s : Sizes) → in_range s ≡ true → Ready (fresh_card s) (fresh_tree s.h s.z) []
start-ready s ok = record { heap = fresh-heap s ok; waiting = none-waits (fresh_card s) }

-- a request that begin takes waits
pub begin-ready : (k : Card) (tree : List ℕ) (live : List Record) (q : Request) → Ready k tree live → first_given (request_table k q) ≡ 0
    → Ready (with_waiting k (Some q)) tree live
begin-ready k tree live q r e = record { heap = r.heap; waiting = e }

-- the request that waits is within its rules
pub waiting-taken : (k : Card) (tree : List ℕ) (live : List Record) (q : Request) → Ready k tree live → k.waiting ≡ Some q → first_given (request_table k q) ≡ 0
waiting-taken k tree live q r e = subst (λ (w : Option Request). first_given (waiting_table k w) ≡ 0) e r.waiting

pub withdraw-ready : (k : Card) (tree : List ℕ) (live : List Record) → Ready k tree live → Ready (with_waiting k None) tree live
withdraw-ready k tree live r = record { heap = r.heap; waiting = none-waits k }

-- "FindMin answers the root's least record"
pub ready-least : (k : Card) (tree : List ℕ) (live : List Record) → Ready k tree live → k.least ≡ smallest (rule_of (parts_of k)) live
ready-least k tree live r = heap-least (parts_of k) k.root tree [] live r.heap
