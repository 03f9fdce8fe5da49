-- What the loops that load a scratch have done so far: records laid one behind the other.
-- Assumes nothing.
use Prim.Native.Nat.{ℕ, suc, ◌+◌, ◌*◌, ◌≤◌, ◌<◌}
use mathlib.Core.Path.{◌≡◌, refl, sym, ap, ◌∙◌}
use mathlib.Core.List.{List, [], ◌++◌}
use native.Mathlib.Nat.{mul-le-mul_left, mul-le-mul_right}
use native.Mathlib.Numerals.{add-one}
use native.Mathlib.Omega.{arith}
use lib.ListN.{length, get_or, set, take, drop}
use lib.Seq.{length-take-le, take-suc, drop-cons, set_at, append_snoc}
use Rattle.record.specs.declared.Record.{Record}
use Rattle.record.specs.Words.{records, written}
use Rattle.way.proofs.WayLaws.{part_length}
use Rattle.gather.specs.Laid.{laid_over}
use Rattle.gather.specs.Shown.{slots_shown, siblings_shown}
use Rattle.gather.proofs.LaidLaws.{laid_none, laid-length, laid_more, written-laid}
use Rattle.gather.proofs.ShownLaws.{slots-none, slots-more, slots_length, siblings-none, siblings-more, siblings-length}

-- Records are laid from a place on, so far `rs`.
pub record Laying (old : List ℕ) (at : ℕ) (rs : List Record) (now : List ℕ) : Type 0 where
  pub room : length now ≡ length old
  pub done : now ≡ laid_over old at rs

module _ (old : List ℕ) (at : ℕ) where
  pub laying-starts : Laying old at [] old
  laying-starts = record { room = refl; done = sym (laid_none old at) }

  pub laying-turns : (rs ss : List Record) (now next : List ℕ) (place : ℕ) → Laying old at rs now → place ≡ at + length rs
      → 4 * (place + length ss) ≤ length old → next ≡ laid_over now place ss → Laying old at (rs ++ ss) next
  laying-turns rs ss now next place s e fits f =
      let n = s.room in
      record {
        room = ap length f ∙ laid-length now place ss (omega arith) ∙ n;
        done = f ∙ rw (s.done, e) (laid_more old at rs (omega arith) ss);
      }

-- the root's slots, the first i of them
module _ (old : List ℕ) (root : List Record) where
  pub root-turns : (now next : List ℕ) (i : ℕ) (d : Record) → Laying old 0 (take i root) now → i < length root → 4 * i + 4 ≤ length old
      → next ≡ written now i (get_or root i d) → Laying old 0 (take (i + 1) root) next
  root-turns now next i d s l fits e =
      let n = s.room in
      let k = length-take-le i root (omega arith) in
      rw (add-one, take-suc root i d l) (laying-turns old 0 (take i root) _ now next i s (omega arith) (omega arith) (e ∙ written-laid now i _ (omega arith)))

-- the slots of the first d of some buckets, from the `from`-th on
module _ (z : ℕ) (ws : List ℕ) (at from : ℕ) (old : List ℕ) where
  pub slots-start : Laying old at (slots_shown z ws from 0) old
  slots-start = rw slots-none (laying-starts old at)

  pub slots-turn : (now next : List ℕ) (d count : ℕ) → Laying old at (slots_shown z ws from d) now → d < count
      → 4 * (at + z * count) ≤ length old → 4 * ((from + count) * (z + 1)) ≤ length ws
      → next ≡ laid_over now (at + z * d) (take z (drop ((from + d) * (z + 1) + 1) (records ws)))
      → Laying old at (slots_shown z ws from (d + 1)) next
  slots-turn now next d count s l fits given e =
      let a : z * suc d ≤ z * count = mul-le-mul_left z l in
      let b : (from + suc d) * (z + 1) ≤ (from + count) * (z + 1) = mul-le-mul_right (z + 1) (omega arith) in
      let n = slots_length z ws from d (omega arith) in
      let m = part_length ws ((from + d) * (z + 1) + 1) z (omega arith) in
      rw slots-more (laying-turns old at _ _ now next (at + z * d) s (omega arith) (omega arith) e)

-- the least records of the first d of some siblings
module _ (z : ℕ) (ws : List ℕ) (n i at : ℕ) (old : List ℕ) where
  pub siblings-start : Laying old at (siblings_shown z ws n i 0) old
  siblings-start = rw siblings-none (laying-starts old at)

  pub siblings-turn : (now next : List ℕ) (d : ℕ) → Laying old at (siblings_shown z ws n i d) now
      → 4 * (at + d + 1) ≤ length old → 4 * (n * (z + 1) + i + d + 1) ≤ length ws
      → next ≡ laid_over now (at + d) (take 1 (drop (n * (z + 1) + i + d) (records ws)))
      → Laying old at (siblings_shown z ws n i (d + 1)) next
  siblings-turn now next d s fits given e =
      let l = siblings-length z ws n i d in
      let m = part_length ws (n * (z + 1) + i + d) 1 (omega arith) in
      rw (siblings-more z ws n i d given) (laying-turns old at _ _ now next (at + d) s (omega arith) (omega arith) e)

-- A loop over the card's slots has put back the first i of a way.
pub record Saving (way root : List Record) (now : List Record) (i : ℕ) : Type 0 where
  pub done : now ≡ take i way ++ drop i root

module _ (way root : List Record) where
  pub saving-starts : Saving way root root 0
  saving-starts = record { done = refl }

  pub saving-turns : (now : List Record) (i : ℕ) (x d : Record) → Saving way root now i → i < length way → i < length root
      → x ≡ get_or way i d → Saving way root (set now i x) (i + 1)
  saving-turns now i x d s l m e =
      let n = length-take-le i way (omega arith) in
      record {
        done = rw (s.done, e, drop-cons root i d m, set_at _ _ _ _ i n, ← append_snoc, ← take-suc way i d l, add-one);
      }
