-- Tests that name one event: Delete's "the record that has this label and stamp", and ExtractMin's the root's least record
-- itself. Assumes nothing.
use mathlib.Core.Bool.{Bool, true, false, and-eq-true_iff}
use mathlib.Core.Path.{◌≡◌, sym, ap}
use borrow.Author.Tests.{eqb-true, eq-eqb, not-true}
use Rattle.record.specs.declared.Leaf.{Leaf}
use Rattle.record.specs.declared.Stamp.{Stamp}
use Rattle.record.specs.declared.Record.{Record}
use Rattle.record.specs.Standing.{is_dummy, same}
use Rattle.record.proofs.StandingLaws.{same_true}
use Rattle.clearing.specs.Removal.{named}

-- what passes is no dummy and has this stamp
abbrev pub Picks : (Record → Bool) → Stamp → Type 0
Picks f stamp = (x : Record) → f x ≡ true → (is_dummy x ≡ false) × (x.stamp.0 ≡ stamp.0)

module _ (q : Leaf) (stamp : Stamp) where
  pub named-is : (x : Record) → named q stamp x ≡ true → (is_dummy x ≡ false) × (x.label ≡ q) × (x.stamp.0 ≡ stamp.0)
  unfolding named
  named-is x e =
      let (real, (l, n)) = simp and-eq-true_iff at e in
      let k = eqb-true x.label.0 q.0 l in
      (not-true (is_dummy x) real, (λ i. record { 0 = k i }), eqb-true _ _ n)

  pub is-named : (x : Record) → is_dummy x ≡ false → x.label ≡ q → x.stamp.0 ≡ stamp.0 → named q stamp x ≡ true
  unfolding named
  is-named x real l n = rw (real, eq-eqb x.label.0 q.0 (ap (λ (a : Leaf). a.0) l), eq-eqb x.stamp.0 stamp.0 n)

  pub named-picks : Picks (named q stamp) stamp
  named-picks x e = let r = named-is x e in (r.0, r.2)

pub same-picks : (m : Record) → is_dummy m ≡ false → Picks (same m) m.stamp
same-picks m real x e = let i = same_true m x e in (rw (← i) real, ap (λ (r : Record). r.stamp.0) (sym i))
