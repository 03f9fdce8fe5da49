-- A line walked field by field: where the loop begins, what a turn does, and what it comes to. Assumes nothing.
use Prim.Native.Nat.{ℕ, ◌+◌, ◌-◌, ◌≤◌, ◌<◌}
use mathlib.Core.Bool.{true, false}
use mathlib.Core.List.{List, ◌∷◌}
use mathlib.Core.Path.{◌≡◌, refl, ◌∙◌}
use native.Mathlib.Omega.{arith}
use lib.Dec.{leb}
use lib.ListN.{length, take, drop, set, length-set, length-drop}
use borrow.Author.Tests.{leb-true, leb-false}
use Rattle.std.specs.Prelude.{Some, None}
use Rattle.decimal.specs.Field.{reads}
use Rattle.fields.specs.Pieces.{before}
use Rattle.fields.specs.Behind.{behind, Numbered}
use Rattle.fields.proofs.PiecesLaws.{before-fits, before_head, behind-none, behind-next}
use Rattle.fields.proofs.NumbersLaws.{Gathering, gathering-starts, gathering-turns, no_number, too_few, too_many, just-these}

module _ (line : List ℕ) (start end : ℕ) (e : end ≡ start + length (before 32 (drop start line))) where
  pub field-within : start ≤ length line → end ≤ length line
  field-within l = omega (arith, before-fits 32 (drop start line), length-drop start line)

  pub field-part : take (end - start) (drop start line) ≡ before 32 (drop start line)
  field-part =
      let n : end - start ≡ length (before 32 (drop start line)) = omega arith in
      rw n (before_head 32 (drop start line))

-- the fields behind `from` up to `at` are the first k numbers
pub record Walking (line : List ℕ) (from : ℕ) (old : List ℕ) (at k : ℕ) (out : List ℕ) : Type 0 where
  pub place : k ≤ length out
  pub room : length out ≡ length old
  pub gathered : Gathering (behind (drop from line)) (behind (drop at line)) old k out

pub walking-starts : (line : List ℕ) (from : ℕ) (old : List ℕ) → Walking line from old from 0 old
walking-starts line from old =
    record { place = omega arith; room = refl; gathered = gathering-starts (behind (drop from line)) old }

module _ (line : List ℕ) (from : ℕ) (old : List ℕ) (at k : ℕ) (out : List ℕ) (w : Walking line from old at k out) where
  abbrev fields : List (List ℕ)
  fields = behind (drop from line)

  pub walk-short : length line ≤ at → k < length out → Numbered fields old false out
  walk-short l m = too_few fields old k out w.room (rw (behind-none line at l) at w.gathered) m

  module _ (l : at < length line) where
    next :
        Gathering fields (before 32 (drop (at + 1) line) ∷ behind (drop (at + 1 + length (before 32 (drop (at + 1) line))) line)) old k out
    next = rw (behind-next line at l) at w.gathered

    module _ (end : ℕ) (e : end ≡ at + 1 + length (before 32 (drop (at + 1) line))) (m : k < length out) where
      pub walk_refused : reads (take (end - (at + 1)) (drop (at + 1) line)) ≡ None → Numbered fields old false out
      walk_refused r = no_number fields old k out _ _ next m (rw (field-part line (at + 1) end e) at r)

      pub walk-turns : (n : ℕ) → reads (take (end - (at + 1)) (drop (at + 1) line)) ≡ Some n → Walking line from old end (k + 1) (set out k n)
      walk-turns n r =
          let more = gathering-turns fields old k out _ _ next m n (rw (field-part line (at + 1) end e) at r) in
          let rest : Gathering fields (behind (drop end line)) old (k + 1) (set out k n) = rw e more in
          record {
            place = rw length-set (omega arith);
            room = length-set out k n ∙ w.room;
            gathered = rest;
          }

  pub walk_ends : length out ≤ k → Numbered fields old (leb (length line) at) out
  walk_ends l = (elim (leb (length line) at) as (λ t. leb (length line) at ≡ t → Numbered fields old t out) [
    | true ↦ λ e.
        let g = rw (behind-none line at (leb-true _ _ e)) at w.gathered in
        just-these fields old k out w.room g (omega (arith, w.place))
    | false ↦ λ e. too_many fields old k out w.room _ _ (next (leb-false _ _ e)) l
  ]) refl
