-- A card's parts that are not bad, fact by fact: what they tell, and what makes them so. Assumes nothing.
use Prim.Native.Nat.{◌≤◌}
use mathlib.Core.Bool.{true, false, ◌||◌}
use mathlib.Core.List.{List}
use mathlib.Core.Path.{◌≡◌}
use mathlib.Mathlib.Data.Bool.Basic.{or-eq-false-eq-eq-false-and-eq-false as neither}
use lib.ListN.{take, drop}
use borrow.Author.Tests.{ltb-false, le-ltb, not-false}
use Rattle.record.specs.declared.Record.{Record}
use Rattle.record.specs.Standing.{is_dummy, may_stand}
use Rattle.record.specs.Order.{before}
use Rattle.record.specs.Many.{every, reals, stamp_twice}
use Rattle.path.specs.Sizes.{leaves_of, in_range}
use Rattle.parts.specs.declared.Parts.{Parts}
use Rattle.parts.specs.Parts.{rule_of}
use Rattle.root.specs.Root.{strange_slot, used_past, stamp_shared, root_records, greater_than_some}
use Rattle.judge.specs.BadParts.{bad_sizes, over_spent, over_live, bad_root, bad_least, bad_parts, odd_least}

pub record Fit (p : Parts) (root : List Record) : Type 0 where
  pub sizes : in_range p.sizes ≡ true
  pub spent : p.t ≤ p.sizes.t
  pub live : (p.c ≤ leaves_of p.sizes.h) × (p.c ≤ p.t)
  pub slots : every (may_stand (rule_of p)) (take p.sizes.r root) ≡ true
  pub past : every is_dummy (drop p.sizes.r root) ≡ true
  pub stamps : stamp_twice (take p.sizes.r root) ≡ false
  pub few : reals (take p.sizes.r root) ≤ p.c
  pub odd : odd_least (rule_of p) p.c p.least ≡ false
  pub first : every (λ x. is_dummy x || before (rule_of p) p.least x) (take p.sizes.r root) ≡ true

module _ (p : Parts) (root : List Record) where
  pub fit : bad_parts p root ≡ false → Fit p root
  unfolding bad_parts strange_slot used_past stamp_shared root_records greater_than_some
  fit e =
      let a = (neither (bad_sizes p) _).0 e in
      let b = (neither (over_spent p) _).0 a.1 in
      let l = (neither (over_live p) _).0 b.1 in
      let d = (neither (bad_root p root) (bad_least p root)).0 l.1 in
      let m = (neither _ _).0 l.0 in
      let f = (neither _ _).0 d.0 in
      let q = (neither _ _).0 f.1 in
      let n = (neither _ _).0 q.1 in
      let o = (neither _ _).0 d.1 in
      record {
        sizes = not-false _ a.0;
        spent = ltb-false _ _ b.0;
        live = (ltb-false _ _ m.0, ltb-false _ _ m.1);
        slots = not-false _ f.0;
        past = not-false _ q.0;
        stamps = n.0;
        few = ltb-false _ _ n.1;
        odd = o.0;
        first = not-false _ o.1;
      }

  pub fit_parts : Fit p root → bad_parts p root ≡ false
  unfolding bad_parts strange_slot used_past stamp_shared root_records greater_than_some
  fit_parts g =
      rw (
        g.sizes,
        le-ltb _ _ g.spent,
        le-ltb _ _ g.live.0,
        le-ltb _ _ g.live.1,
        g.slots,
        g.past,
        g.stamps,
        le-ltb _ _ g.few,
        g.odd,
        g.first,
      )
