-- On a ready card each call gives the number that the pending request and the plain queue tell, and it is 11 or less.
-- Assumes nothing.
use Prim.Native.Nat.{ℕ, ◌≤◌}
use mathlib.Core.Bool.{true, false}
use mathlib.Core.List.{List}
use mathlib.Core.Path.{◌≡◌, refl, ap}
use native.Mathlib.Omega.{arith}
use lib.ListN.{length}
use Rattle.std.specs.Prelude.{Option, None, Some}
use Rattle.record.specs.declared.Record.{Record}
use Rattle.path.specs.declared.sizes.Sizes.{Sizes}
use Rattle.path.specs.Sizes.{leaves_of}
use Rattle.refusal.specs.Refusal.{first_given}
use Rattle.refusal.proofs.RefusalLaws.{Rows, none, next, past, first_of, rows_append}
use Rattle.root.specs.Root.{root_full}
use Rattle.parts.specs.declared.Parts.{Parts}
use Rattle.request.specs.declared.Request.{Request}
use Rattle.request.proofs.RequestLaws.{request-rows}
use Rattle.checks.specs.Checks.{short_rows, call_rows}
use Rattle.card.specs.declared.Card.{Card}
use Rattle.card.specs.Calls.{call_table}
use Rattle.served.specs.Ready.{Ready}
use Rattle.served.proofs.CallLaws.{ready-card}
use Rattle.demands.specs.Queue.{Queue}
use Rattle.world.specs.World.{Call, begin, finish, withdraw, find_min}
use Rattle.demands.specs.Refusals.{parts_told, call_of, refusals, refusal_of}
use Rattle.demands.proofs.AnswerLaws.{queue_of, parts-told}

-- ---- the numbers that can be given: 2 to 9, 11, and 10 where fewer than N are live and the root is full
module _ (s : Sizes) (root : List Record) (p : Option Request) (q : Queue) where
  module _ (P : ℕ → Type 0) (none-given : P 0) (low : (n : ℕ) → 2 ≤ n → n ≤ 9 → P n)
      (over : (length q.events ≡ leaves_of s.h → ⊥) → root_full s.r root ≡ true → P 10) (short : P 11) where
    abbrev two : P 2
    two = low 2 (omega arith) (omega arith)

    abbrev three : P 3
    three = low 3 (omega arith) (omega arith)

    short-rows : (w : Option Request) (room : ℕ) → Rows P (short_rows (parts_told s q) w room)
    short-rows None room = none
    short-rows (Some r) room = next 11 short none

    refusal-rows : (c : Call) → Rows P (refusals s root p q c)
    unfolding call_rows
    refusal-rows (begin {r} asked places) =
        let own = request-rows (parts_told s q) root P (λ n l m. low n (omega arith) m) over r in
        past 13 refl (next 2 two (rows_append own (next 11 short none)))
    refusal-rows (finish words) = past 13 refl (next 3 three (short-rows p (length words)))
    refusal-rows withdraw = past 13 refl (next 3 three none)
    refusal-rows find_min = past 13 refl (next 2 two (next 8 (low 8 (omega arith) (omega arith)) none))

    pub refusal_is : (c : Call) → P (refusal_of s root p q c)
    refusal_is c = first_of none-given (refusal-rows c)

  pub refusal-most : (c : Call) → refusal_of s root p q c ≤ 11
  refusal-most = refusal_is (λ n. n ≤ 11) (omega arith) (λ n l m. omega arith) (λ f e. omega arith) (omega arith)

-- ---- what the card's table of a call gives
pub call-number : (k : Card) (tree : List ℕ) (live : List Record) → Ready k tree live → (c : Call)
    → first_given (call_table k (call_of c)) ≡ refusal_of k.sizes k.root k.waiting (queue_of live k.t) c
unfolding call_table
call-number k tree live r c =
    rw (ready-card k tree live r) (ap (λ (p : Parts). first_given (call_rows false p k.root k.waiting (call_of c))) (parts-told k tree live r))
