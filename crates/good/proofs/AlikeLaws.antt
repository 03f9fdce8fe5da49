-- A heap is good by what its buckets hold, and by nothing else of it; and it stays so under a rule that allows more. Assumes
-- nothing.
use Prim.Native.Nat.{◌<◌}
use mathlib.Core.Bool.{Bool}
use mathlib.Core.List.{List, ◌++◌}
use mathlib.Core.Path.{◌≡◌, ap, ◌∙◌}
use native.Mathlib.Decide.{dec_le}
use native.Mathlib.Omega.{arith}
use lib.ListN.{length}
use Rattle.record.specs.declared.Bucket.{Bucket}
use Rattle.record.specs.declared.Record.{Record}
use Rattle.record.specs.declared.Rule.{Rule}
use Rattle.record.specs.Order.{smallest_by}
use Rattle.record.proofs.StandingLaws.{Allows, proper-more}
use Rattle.record.proofs.OrderLaws.{order-more}
use Rattle.record.proofs.ManyLaws.{every-each, each-every}
use Rattle.path.specs.declared.sizes.Sizes.{Sizes}
use Rattle.path.specs.Sizes.{leaves_of}
use Rattle.path.specs.Path.{number, lower_child, upper_child}
use Rattle.path.specs.Layout.{Contents}
use Rattle.tree.specs.Tree.{Tree, InTree, Alike}
use Rattle.good.specs.Good.{Housed, children_in, LeastTrue, Good}
use Rattle.good.proofs.LeastLaws.{children-inner, children-leaf}

module _ (s : Sizes) (T U : Tree) (same : Alike s.h U T) where
  slots : (b : Bucket) → InTree s.h b → (U b).slots ≡ (T b).slots
  slots b t = ap (λ (c : Contents). c.slots) (same b t)

  alike-housed : (live : List Record) → Housed s T live → Housed s U live
  alike-housed live H =
      record {
        sized = λ b t. ap length (slots b t) ∙ H.sized b t;
        stands = λ b t x m. H.stands b t x (rw (slots b t) at m);
        seated = λ x m. let p = H.seated x m in (p.0, p.1, rw (slots p.0 p.1) p.2);
        once = λ b t. rw (slots b t) (H.once b t);
        apart = λ a b ta tb x y i j. H.apart a b ta tb x y (rw (slots a ta) at i) (rw (slots b tb) at j);
      }

  alike-least : (rule : Rule) (b : Bucket) → InTree s.h b → LeastTrue rule s.h T b → LeastTrue rule s.h U b
  alike-least rule b t e = elim (dec_le (leaves_of s.h) (number b)) [
    | yes m ↦ rw (same b t, children-leaf s.h U b m) (rw (children-leaf s.h T b m) at e)
    | no m ↦
        let inner : number b < leaves_of s.h = omega arith in
        let low = same (lower_child b) (record { some = omega (arith, t.some); most = omega arith }) in
        let up = same (upper_child b) (record { some = omega arith; most = omega arith }) in
        rw (same b t, children-inner s.h U b inner, low, up) (rw (children-inner s.h T b inner) at e)
  ]

  pub alike-good : (rule : Rule) (live : List Record) → Good s rule T live → Good s rule U live
  alike-good rule live g =
      record {
        leaves = g.leaves;
        proper = g.proper;
        stamps = g.stamps;
        housed = alike-housed live g.housed;
        leasts = λ b t. alike-least rule b t (g.leasts b t);
      }

-- what a finish changes of a rule makes no heap bad
pub more-good : (s : Sizes) (rule more : Rule) (T : Tree) (live : List Record) → Allows rule more → more.leaves ≡ rule.leaves → Good s rule T live
    → Good s more T live
more-good s rule more T live a same g =
    record {
      leaves = same ∙ g.leaves;
      proper = each-every _ live (λ x m. proper-more rule more a x (every-each _ g.proper m));
      stamps = g.stamps;
      housed = g.housed;
      leasts = λ b t. g.leasts b t
          ∙ ap (λ (before : Record → Record → Bool). smallest_by before ((T b).slots ++ children_in s.h T b)) (order-more rule more a);
    }
