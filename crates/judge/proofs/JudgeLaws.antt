-- BadCard as the code works it out: one pass finds what three clauses ask of the root's slots. Assumes nothing.
use Prim.Native.Nat.{ℕ, ◌*◌, ◌-◌}
use mathlib.Core.Bool.{Bool, true, false, not, ◌&&◌, ◌||◌, or-true, or-false}
use mathlib.Core.List.{List}
use mathlib.Core.Path.{◌≡◌, refl, sym, ap, ◌∙◌}
use lib.Dec.{ltb, leb}
use lib.ListN.{length, take, drop}
use borrow.Author.Rules.{part_to_end}
use borrow.Author.Tests.{leb-true, leb-false, lt-ltb, le-ltb}
use Rattle.record.specs.declared.Record.{Record}
use Rattle.record.specs.declared.Rule.{Rule}
use Rattle.record.specs.Standing.{is_dummy, may_stand}
use Rattle.record.specs.Order.{before}
use Rattle.record.specs.Many.{every, reals, stamp_twice}
use Rattle.record.specs.Words.{records}
use Rattle.record.proofs.WordsLaws.{records-take, records-drop}
use Rattle.parts.specs.declared.Parts.{Parts}
use Rattle.parts.specs.Parts.{rule_of}
use Rattle.root.specs.Root.{strange_slot, used_past, stamp_shared, root_records, greater_than_some, slots_fine}
use Rattle.judge.specs.BadParts.{bad_sizes, over_spent, over_live, bad_root, bad_least, bad_parts, odd_least, root_fails}

not-leb : (a b : ℕ) → not (leb a b) ≡ ltb b a
not-leb a b = (elim (leb a b) as (λ t. leb a b ≡ t → not t ≡ ltb b a) [
  | true ↦ λ e. sym (le-ltb b a (leb-true a b e))
  | false ↦ λ e. sym (lt-ltb b a (leb-false a b e))
]) refl

-- the slots stand (s), none is before the least (g), few enough (m), the rest as they are
regroup : (s g m p d o : Bool)
    → ((not s || (p || (d || not m))) || (o || not g)) ≡ ((not (s && (g && m)) || (p || d)) || o)
regroup false g m p d o = refl
regroup true false m p d o = simp or-true
regroup true true false p d o = simp or-true
regroup true true true p d o = simp or-false

module _ (p : Parts) (root : List Record) where
  abbrev slots : List Record
  slots = take p.sizes.r root

  abbrev odd : Bool
  odd = odd_least (rule_of p) p.c p.least

  abbrev fails : Bool
  fails = root_fails p.sizes.r root (rule_of p) p.c p.least

  root-regroups : (bad_root p root || bad_least p root) ≡ (fails || odd)
  unfolding strange_slot used_past stamp_shared root_records greater_than_some slots_fine
  root-regroups =
      rw (← not-leb (reals slots) p.c)
      (regroup (every (may_stand (rule_of p)) slots) (every (λ x. is_dummy x || before (rule_of p) p.least x) slots)
      (leb (reals slots) p.c) (used_past p.sizes.r root) (stamp_shared p.sizes.r root) odd)

  -- BadCard, one test after the other
  pub bad-in-turn : bad_parts p root ≡ (bad_sizes p || (over_spent p || (over_live p || (fails || odd))))
  unfolding bad_parts
  bad-in-turn = rw root-regroups

-- what the pass over slots, places past them and stamps says of the root whose words are ws
module _ (ws : List ℕ) (r : ℕ) (rule : Rule) (c : ℕ) (least : Record) where
  abbrev bad : Bool
  bad = root_fails r (records ws) rule c least

  -- the slots of the root, and the places past them
  module _ (fine : Bool) (found : fine ≡ slots_fine rule least c (records (take (4 * r) ws))) where
    slots-found : slots_fine rule least c (take r (records ws)) ≡ fine
    slots-found = sym (found ∙ ap (slots_fine rule least c) (records-take ws r))

    pub slots-bad : not fine ≡ true → true ≡ bad
    slots-bad e = rw (slots-found, e)

    module _ (long : length ws ≡ 256) (good : not fine ≡ false) (none : Bool) (past : none ≡ every is_dummy (records (take (256 - 4 * r) (drop (4 * r) ws)))) where
      past-found : used_past r (records ws) ≡ not none
      unfolding used_past
      past-found =
          ap not (sym (rw (← long) at past ∙ ap (every is_dummy) (ap records (part_to_end ws (4 * r)) ∙ records-drop ws r)))

      pub past-bad : not none ≡ true → true ≡ bad
      past-bad e = rw (slots-found, good, past-found, e)

      pub stamps-told : (t : Bool) → not none ≡ false → t ≡ stamp_twice (records (take (4 * r) ws)) → t ≡ bad
      unfolding stamp_shared
      stamps-told t e f = rw (slots-found, good, past-found, e) (f ∙ ap stamp_twice (records-take ws r))
