-- Damaged denied, clause by clause, and back. Assumes nothing.
use Prim.Native.Nat.{ℕ}
use mathlib.Core.Bool.{Bool, true, false, not, ◌||◌, and-eq-true_iff, true≢false}
use mathlib.Core.List.{List, [], ◌∷◌}
use mathlib.Core.Path.{◌≡◌, refl}
use lib.ListN.{take}
use Rattle.record.specs.declared.Record.{Record}
use Rattle.record.specs.declared.Rule.{Rule}
use Rattle.record.specs.Many.{stamp_twice}
use Rattle.record.specs.Order.{least_of}
use Rattle.record.proofs.StandingLaws.{same_true, true_same}
use Rattle.path.specs.Path.{path_bucket}
use Rattle.least.specs.Least.{in_order}
use Rattle.sound.specs.Sound.{path_sound, siblings_sound, all_sound}
use Rattle.truth.specs.Leasts.{leasts_true, all_true}
use Rattle.sound.specs.Fetched.{Fetched}
use Rattle.damage.specs.Damaged.{path_damaged, pair_damaged}

-- one clause is enough
denied : (sound twice true' : Bool) → (not sound || (twice || not true')) ≡ false
    → (sound ≡ true) × ((twice ≡ false) × (true' ≡ true))
denied true false true e = (refl, (refl, refl))
denied true false false e = absurd (true≢false e)
denied true true true' e = absurd (true≢false e)
denied false twice true' e = absurd (true≢false e)

-- what was fetched for one path is sound, and true below the root
pub record PathGood (h : ℕ) (rule : Rule) (from : ℕ) (p : Fetched) : Type 0 where
  pub buckets : path_sound h p.leaf p.shown rule ≡ true
  pub siblings : siblings_sound h p.leaf p.beside rule from ≡ true
  pub leasts : leasts_true h p.leaf p.shown p.beside rule ≡ true

module _ (h : ℕ) (rule : Rule) (from : ℕ) (p : Fetched) where
  path-good : all_sound h rule p from ≡ true → all_true h rule p ≡ true → PathGood h rule from p
  path-good s t =
      let (b, i) = (and-eq-true_iff _ _).0 s in
      record { buckets = b; siblings = i; leasts = t }

  good-sound : PathGood h rule from p → all_sound h rule p from ≡ true
  good-sound g = rw (g.buckets, g.siblings)

module _ (h r : ℕ) (rule : Rule) (least : Record) where
  -- ExtractMin and Delete
  pub record Undamaged (p : Fetched) (slots : List Record) : Type 0 where
    pub path : PathGood h rule 1 p
    pub stamps : stamp_twice slots ≡ false
    pub root : least ≡ least_of rule (take r slots) (in_order (path_bucket h p.leaf 1) (p.shown 1).least (p.beside 1))

  pub undamaged : (p : Fetched) (slots : List Record) → path_damaged h r rule least p slots ≡ false → Undamaged p slots
  unfolding path_damaged
  undamaged p slots e =
      let (s, (w, t)) = denied _ _ _ e in
      let (l, m) = (and-eq-true_iff _ _).0 t in
      record { path = path-good h rule 1 p s l; stamps = w; root = same_true _ _ m }

  pub not-damaged : (p : Fetched) (slots : List Record) → Undamaged p slots → path_damaged h r rule least p slots ≡ false
  unfolding path_damaged
  not-damaged p slots u = rw (good-sound h rule 1 p u.path, u.stamps, u.path.leasts, true_same u.root)

  -- Insert
  pub record PairUndamaged (p q : Fetched) (slots : List Record) : Type 0 where
    pub first : PathGood h rule 2 p
    pub second : PathGood h rule 2 q
    pub stamps : stamp_twice slots ≡ false
    pub root : least ≡ least_of rule (take r slots) ((p.shown 1).least ∷ (q.shown 1).least ∷ [])

  pub pair-undamaged : (p q : Fetched) (slots : List Record) → pair_damaged h r rule least p q slots ≡ false → PairUndamaged p q slots
  unfolding pair_damaged
  pair-undamaged p q slots e =
      let (s, (w, t)) = denied _ _ _ e in
      let (a, b) = (and-eq-true_iff _ _).0 s in
      let (l, m) = (and-eq-true_iff _ _).0 t in
      let (c, d) = (and-eq-true_iff _ _).0 l in
      record { first = path-good h rule 2 p a c; second = path-good h rule 2 q b d; stamps = w; root = same_true _ _ m }

  pub pair-not-damaged : (p q : Fetched) (slots : List Record) → PairUndamaged p q slots → pair_damaged h r rule least p q slots ≡ false
  unfolding pair_damaged
  pair-not-damaged p q slots u =
      rw (good-sound h rule 2 p u.first, good-sound h rule 2 q u.second, u.stamps, u.first.leasts, u.second.leasts, true_same u.root)
