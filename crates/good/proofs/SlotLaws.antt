-- Each live event stands in exactly one slot, slot by slot: it has one, and any two that hold it are the same. Assumes
-- nothing.
use Prim.Native.Nat.{ℕ, zero, suc, ◌<◌}
use mathlib.Core.List.{List, Memᴰ}
use mathlib.Core.Path.{◌≡◌, refl, ap}
use native.Mathlib.Omega.{arith}
use lib.ListN.{length, get_or}
use Rattle.record.specs.declared.Bucket.{Bucket}
use Rattle.record.specs.declared.Record.{Record}
use Rattle.record.specs.declared.Rule.{Rule}
use Rattle.record.specs.Standing.{dummy}
use Rattle.path.specs.declared.sizes.Sizes.{Sizes}
use Rattle.tree.specs.Tree.{Tree, InTree}
use Rattle.good.specs.Good.{Good}
use Rattle.good.proofs.OnceLaws.{Shares, shares-sym, Once, more, test-once}
use Rattle.good.proofs.FitLaws.{place_of, at_place}
use Rattle.good.proofs.LowLaws.{live-real}

-- where no stamp stands twice, two places whose records share one are the same
once-place : {w : List Record} → Once w → (i j : ℕ) → i < length w → j < length w → Shares (get_or w i dummy) (get_or w j dummy) → i ≡ j
once-place Once.none i j l m s = absurd (omega arith)
once-place (more f o) zero zero l m s = refl
once-place (more {x} {xs} f o) zero (suc j) l m s = absurd (f _ (at_place xs j (omega arith)) s)
once-place (more {x} {xs} f o) (suc i) zero l m s = absurd (f _ (at_place xs i (omega arith)) (shares-sym s))
once-place (more {x} {xs} f o) (suc i) (suc j) l m s = ap suc (once-place o i j (omega arith) (omega arith) s)

-- slot i of bucket b holds x
pub record Holds (s : Sizes) (T : Tree) (x : Record) (b : Bucket) (i : ℕ) : Type 0 where
  pub within : InTree s.h b
  pub place : i < length (T b).slots
  pub there : get_or (T b).slots i dummy ≡ x

module _ (s : Sizes) (rule : Rule) (T : Tree) (live : List Record) (g : Good s rule T live) (x : Record) (m : Memᴰ x live) where
  pub some-slot : (b : Bucket) × (i : ℕ) × Holds s T x b i
  some-slot =
      let p = g.housed.seated x m in
      let k = place_of p.2 in
      (p.0, k.0, record { within = p.1; place = k.1; there = k.2 })

  pub one-slot : (a b : Bucket) (i j : ℕ) → Holds s T x a i → Holds s T x b j → (a ≡ b) × (i ≡ j)
  one-slot a b i j p q =
      let real = live-real s rule T live g x m in
      let in-a : Memᴰ x (T a).slots = rw p.there at (at_place (T a).slots i p.place) in
      let in_b : Memᴰ x (T b).slots = rw q.there at (at_place (T b).slots j q.place) in
      let same : a ≡ b = g.housed.apart a b p.within q.within x x in-a in_b real real refl in
      let q' : Holds s T x a j = rw same q in
      let both : Shares (get_or (T a).slots i dummy) (get_or (T a).slots j dummy) =
      rw (p.there, q'.there) (record { one = real; two = real; stamp = refl }) in
      (same, once-place (test-once (T a).slots (g.housed.once a p.within)) i j p.place q'.place both)
