-- An Insert on the card's parts: what the work leaves, once the look has passed, and its judgement. Assumes nothing.
use Prim.Native.Nat.{ℕ, suc, ◌+◌, ◌*◌, ◌-◌, ◌≤◌}
use mathlib.Core.Bool.{Bool, false, ◌||◌}
use mathlib.Core.List.{List, ◌++◌}
use mathlib.Core.Path.{◌≡◌, refl, ap, ◌∙◌}
use mathlib.Mathlib.Data.Bool.Basic.{or-eq-false-eq-eq-false-and-eq-false as neither}
use native.Mathlib.Nat.{zero-add}
use native.Mathlib.Omega.{arith}
use lib.ListN.{take, drop}
use Rattle.std.specs.Prelude.{Result, Ok, Err}
use Rattle.record.specs.declared.Leaf.{Leaf}
use Rattle.record.specs.declared.Record.{Record}
use Rattle.record.specs.Words.{records}
use Rattle.gather.specs.Shown.{sibling_at, slots_shown}
use Rattle.mend.specs.Mended.{path_words, beside_at}
use Rattle.mend.proofs.PartLaws.{path-words-append}
use Rattle.parts.specs.declared.Parts.{Parts}
use Rattle.pair.specs.PairWork.{first_siblings, second_siblings, PairWorked}
use Rattle.pair.proofs.BesideLaws.{pair_same}
use Rattle.settle.specs.declared.Damaged.{Damaged}
use Rattle.settle.specs.declared.Settled.{Settled}
use Rattle.settle.specs.Left.{Left, rule_after, path_way, lower_left, upper_left, insertion, bad_left, pair_bad, insertion_damaged}
use Rattle.settle.specs.Settled.{judged, Prepares}
use Rattle.settle.proofs.PreparedLaws.{told-damaged, told-done, not-prepared, is-prepared}
use Rattle.look.specs.declared.Looked.{Looked}
use Rattle.look.specs.Look.{PairLooks}
use Rattle.look.proofs.PairLaws.{below_at}
use Rattle.prepare.specs.Prepared.{PairPrepared}

module _ (p : Parts) (root : List Record) (ws : List ℕ) (first second : Leaf) (new : Record)
    (w beside : List ℕ) (seen : Looked) (looked : PairLooks p root ws first second w beside seen) where
  abbrev left : Left
  left = insertion p root ws first second new

  abbrev damaged : Bool
  damaged = insertion_damaged p root ws first second new

  told : damaged ≡ (pair_bad p root ws first second || bad_left p left)
  unfolding insertion_damaged
  told = refl

  pub fetched-bad : (one two : List ℕ) (e : Damaged) (out : Result Settled Damaged) → seen.fit ≡ Err e → out ≡ Err e
      → PairPrepared p root ws first second new one two one two out
  fetched-bad one two e out g h =
      let v = told-damaged _ _ seen.fit looked.verdict e g in
      record {
        whole = (not-prepared p damaged left (2 * (p.sizes.h - 1)) (one ++ two) out (told ∙ rw v) h).whole;
        lower = rw v;
        upper = rw v;
      }

  -- what the work leaves
  module _ (high : 1 ≤ p.sizes.h) (w₁ one₀ two₀ one two : List ℕ) (x : Record)
      (work : PairWorked (rule_after p) p.sizes first second new (beside_at (records beside)) (second_siblings p.sizes ws) (records w) (slots_shown p.sizes.z ws p.sizes.h p.sizes.h) w₁ one two x)
      (next : List Record) (saved : next ≡ take p.sizes.r (records w₁) ++ drop p.sizes.r root) (good : seen.fit ≡ Ok tt) where
    abbrev Same : Type 0
    Same = PairWorked (rule_after p) p.sizes first second new (first_siblings p.sizes ws) (second_siblings p.sizes ws) (path_way p.sizes root ws) (slots_shown p.sizes.z ws p.sizes.h p.sizes.h) w₁ one two x

    same : Same
    same =
        let alike : (d : ℕ) → 2 ≤ d → d ≤ p.sizes.h → beside_at (records beside) d ≡ first_siblings p.sizes ws d =
        λ d l m. below_at p.sizes ws 0 (records beside) looked.siblings d l m ∙ ap (sibling_at p.sizes.z ws (2 * p.sizes.h)) (zero-add (d - 2)) in
        pair_same (rule_after p) p.sizes first second new (beside_at (records beside)) (first_siblings p.sizes ws) (second_siblings p.sizes ws) (path_way p.sizes root ws) (slots_shown p.sizes.z ws p.sizes.h p.sizes.h) w₁ one two x high alike (rw looked.way at work)

    ready : one ++ two ≡ path_words left.buckets
    unfolding insertion
    ready = rw (path-words-append, ← same.first_words, ← same.second_words)

    pub left-judged : (out : Result Settled Damaged)
        → out ≡ judged p (record { root = next; least = x; c = p.c + 1; found = false; moved = seen.moved })
        → PairPrepared p root ws first second new one₀ two₀ one two out
    unfolding insertion
    left-judged out e =
        let k : p.c + 1 ≡ suc p.c = omega arith in
        let v = (told-done _ _ seen.fit looked.verdict tt good).0 in
        let r : next ≡ left.root = saved ∙ ap (λ (l : List Record). take p.sizes.r l ++ drop p.sizes.r root) same.after in
        let a : Prepares damaged left (2 * (p.sizes.h - 1)) (one ++ two) out =
        is-prepared p damaged left (2 * (p.sizes.h - 1)) (one ++ two) out (pair_bad p root ws first second) _ told v
        (λ i. record { root = r i; least = same.least i; c = k i; found = false; moved = looked.counted i }) ready e in
        record { whole = a.whole; lower = rw v same.first_words; upper = rw v same.second_words }

-- the two paths' words together, for the stores
module _ (p : Parts) (root : List Record) (ws : List ℕ) (first second : Leaf) (new : Record) where
  fetched-good : insertion_damaged p root ws first second new ≡ false → pair_bad p root ws first second ≡ false
  unfolding insertion_damaged
  fetched-good g = ((neither _ _).0 g).0

  pub pair-prepares : (one₀ two₀ one two : List ℕ) (out : Result Settled Damaged) → PairPrepared p root ws first second new one₀ two₀ one two out
      → Prepares (insertion_damaged p root ws first second new) (insertion p root ws first second new) (2 * (p.sizes.h - 1)) (one ++ two) out
  unfolding insertion
  pair-prepares one₀ two₀ one two out q =
      record {
        whole = q.whole;
        ready =
            λ g.
            let v : pair_bad p root ws first second ≡ false = fetched-good g in
            let a : one ≡ path_words (lower_left p root ws first new) = rw v at q.lower in
            let b : two ≡ path_words (upper_left p root ws first second new) = rw v at q.upper in
            rw (path-words-append, ← a, ← b);
      }
