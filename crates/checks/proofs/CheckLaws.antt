-- The first rows of a call's table, and what comes after them. Assumes nothing.
use Prim.Native.Nat.{ℕ}
use mathlib.Core.Bool.{Bool, false, cond}
use mathlib.Core.List.{List, [], ◌∷◌, ◌++◌}
use mathlib.Core.Path.{◌≡◌, sym, ap, ◌∙◌}
use mathlib.Mathlib.Data.Bool.Basic.{or-eq-false-eq-eq-false-and-eq-false as neither}
use native.Mathlib.Omega.{arith}
use lib.Dec.{ltb, eqb}
use lib.ListN.{length, take}
use Rattle.std.specs.Prelude.{Option}
use Rattle.record.specs.declared.Record.{Record}
use Rattle.record.specs.Words.{records}
use Rattle.path.proofs.SizesLaws.{InRange, in-range}
use Rattle.gather.specs.Laid.{laid_over}
use Rattle.gather.proofs.RootLaws.{root-laid}
use Rattle.refusal.specs.Refusal.{Refusal, row, first_given}
use Rattle.refusal.proofs.RefusalLaws.{or-first, or-second, none-given, Numbered, none, next, first-append}
use Rattle.parts.specs.declared.Parts.{Parts}
use Rattle.judge.specs.BadParts.{bad_parts}
use Rattle.judge.proofs.FitLaws.{fit}
use Rattle.request.specs.declared.Request.{Request}
use Rattle.request.specs.Tables.{request_rows}
use Rattle.request.specs.Job.{job_of}
use Rattle.request.proofs.RequestLaws.{request-numbered}
use Rattle.listing.specs.Listing.{places_asked}
use Rattle.checks.specs.declared.Call.TheVariants.{Min, Begin}
use Rattle.checks.specs.Checks.{bad_with, busy_rows, call_rows}

busy-numbered : (bad : Bool) (w : Option Request) → Numbered (busy_rows bad w)
busy-numbered bad w = next 13 (omega arith) (next 2 (omega arith) none)

-- the first rows give a number, or the rows after them do
module _ (xs ys : List Refusal) (numbered : Numbered xs) where
  stops : {n : ℕ} → (n ≡ 0 → ⊥) → n ≡ first_given xs → n ≡ first_given (xs ++ ys)
  stops h e = e ∙ sym (first-append ys numbered ∙ or-first _ _ (λ z. h (e ∙ z)))

  goes_on : 0 ≡ first_given xs → first_given (xs ++ ys) ≡ first_given ys
  goes_on e = first-append ys numbered ∙ or-second _ _ (sym e)

-- the root's places, loaded into words
pub root-loaded : (last ws : List ℕ) (root : List Record) → last ≡ laid_over ws 0 (take 64 root) → length root ≡ 64 → length ws ≡ 256
    → records last ≡ root
root-loaded last ws root e h l = ap records e ∙ root-laid ws root h l

-- sizes of parts that are not bad
pub parts-range : (p : Parts) (root : List Record) → bad_parts p root ≡ false → InRange p.sizes
parts-range p root e = in-range p.sizes (fit p root e).sizes

pub good-range : (p : Parts) (root : List Record) (w : Option Request) → bad_with p root w ≡ false → InRange p.sizes
good-range p root w e = parts-range p root ((neither _ _).0 e).0

pub idle-range : (p : Parts) (root : List Record) (w : Option Request) → 0 ≡ first_given (busy_rows (bad_with p root w) w) → InRange p.sizes
idle-range p root w e = good-range p root w (none-given 13 _ _ (omega arith) (sym e)).0

module _ (bad : Bool) (p : Parts) (root : List Record) (w : Option Request) where
  -- ---- FindMin: busy, or no live event
  pub min-busy : {n : ℕ} → (n ≡ 0 → ⊥) → n ≡ first_given (busy_rows bad w) → n ≡ first_given (call_rows bad p root w Min)
  unfolding call_rows
  min-busy = stops (busy_rows bad w) (row 8 (eqb p.c 0) ∷ []) (busy-numbered bad w)

  pub min-empty : 0 ≡ first_given (busy_rows bad w) → first_given (call_rows bad p root w Min) ≡ cond (eqb p.c 0) 8 0
  unfolding call_rows first_given
  min-empty = goes_on (busy_rows bad w) (row 8 (eqb p.c 0) ∷ []) (busy-numbered bad w)

  -- ---- begin: busy, or the request's own fault, or no room
  module _ (request : Request) (room : ℕ) where
    abbrev rows : List Refusal
    rows = request_rows p root request

    abbrev last : List Refusal
    last = row 11 (ltb room (places_asked p.sizes.h (job_of p request))) ∷ []

    pub begin-busy : {n : ℕ} → (n ≡ 0 → ⊥) → n ≡ first_given (busy_rows bad w) → n ≡ first_given (call_rows bad p root w (Begin request room))
    unfolding call_rows
    begin-busy = stops (busy_rows bad w) (rows ++ last) (busy-numbered bad w)

    module _ (idle : 0 ≡ first_given (busy_rows bad w)) where
      goes-to-rows : first_given (call_rows bad p root w (Begin request room)) ≡ first_given (rows ++ last)
      unfolding call_rows
      goes-to-rows = goes_on (busy_rows bad w) (rows ++ last) (busy-numbered bad w) idle

      pub begin-fault : {n : ℕ} → (n ≡ 0 → ⊥) → n ≡ first_given rows → n ≡ first_given (call_rows bad p root w (Begin request room))
      begin-fault h e = stops rows last (request-numbered p root request) h e ∙ sym goes-to-rows

      pub begin-room : 0 ≡ first_given rows
          → first_given (call_rows bad p root w (Begin request room)) ≡ cond (ltb room (places_asked p.sizes.h (job_of p request))) 11 0
      unfolding first_given
      begin-room e = goes-to-rows ∙ goes_on rows last (request-numbered p root request) e
