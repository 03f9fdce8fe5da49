-- Level d of a path in its part of the words: its least record, the children of its bucket, and what clause 3 tells of it.
-- Assumes nothing.
use Prim.Native.Nat.{ℕ, suc, ◌+◌, ◌*◌, ◌-◌, ◌≤◌, ◌<◌}
use mathlib.Core.Bool.{Bool, true}
use mathlib.Core.List.{List}
use mathlib.Core.Path.{◌≡◌, sym, ◌∙◌}
use native.Mathlib.Numerals.{add-one}
use native.Mathlib.Omega.{arith}
use lib.ListN.{length, take, drop}
use borrow.Author.Tests.{lt-ltb, le-ltb}
use Rattle.record.specs.declared.Leaf.{Leaf}
use Rattle.record.specs.declared.Bucket.{Bucket}
use Rattle.record.specs.declared.Record.{Record}
use Rattle.record.specs.declared.Rule.{Rule}
use Rattle.record.specs.Standing.{dummy, same}
use Rattle.record.specs.Order.{smallest, smallest_by, least_of}
use Rattle.record.specs.Words.{record_at, records}
use Rattle.record.proofs.WordsLaws.{records-at}
use Rattle.record.proofs.StandingLaws.{same_true}
use Rattle.record.proofs.ManyLaws.{every-each}
use Rattle.path.specs.Path.{path_bucket}
use Rattle.path.specs.Layout.{Contents}
use Rattle.least.specs.Least.{over, in_order}
use Rattle.least.proofs.LeastLaws.{smallest-over}
use Rattle.gather.specs.Shown.{whole_at}
use Rattle.gather.proofs.ShownLaws.{fewer}
use Rattle.sound.specs.Fetched.{shown_in, beside_in}
use Rattle.sound.proofs.Checking.{level-room}
use Rattle.path.proofs.LevelLaws.{level_in}
use Rattle.truth.specs.Leasts.{kids_shown, leasts_true}

module _ (z : ℕ) (path : List ℕ) (h d : ℕ) (room : 4 * (h * (z + 1)) ≤ length path) (some : 1 ≤ d) (most : d ≤ h) where
  pub level-ends : 4 * ((d - 1) * (z + 1) + 1 + z) ≤ length path
  level-ends = let r = level-room z path h d room some most in omega arith

  pub least-shown : record_at path ((d - 1) * (z + 1)) ≡ (shown_in z path d).least
  unfolding whole_at
  least-shown = let r = level-ends in sym (records-at path ((d - 1) * (z + 1)) dummy (omega arith))

  -- the verdict on its least record, from what was read and worked out
  pub level-true : (rule : Rule) (kids : List Record) (have kid given : Record) (verdict : Bool) → have ≡ record_at path ((d - 1) * (z + 1))
      → kid ≡ smallest rule kids → given ≡ over rule (take z (drop ((d - 1) * (z + 1) + 1) (records path))) kid → verdict ≡ same have given
      → verdict ≡ same (shown_in z path d).least (least_of rule (shown_in z path d).slots kids)
  unfolding whole_at
  level-true rule kids have kid given verdict eh ek eg e = e ∙ rw (eg, ek, eh, least-shown, smallest-over)

-- ---- the children of the path's bucket at level d
module _ (h : ℕ) (q : Leaf) (z : ℕ) (path sibs : List ℕ) (d : ℕ) where
  pub kids-none : (rule : Rule) → h ≤ d → dummy ≡ smallest rule (kids_shown h q (shown_in z path) (beside_in sibs) d)
  unfolding kids_shown smallest_by
  kids-none rule l = rw (le-ltb d h l)

  module _ (l : d < h) (room : 4 * (h * (z + 1)) ≤ length path) (beside : 4 * h ≤ length sibs) where
    pub kid-ends : 4 * (d * (z + 1)) + 4 ≤ length path
    kid-ends = let r = fewer z (d + 1) h room (omega arith) in omega arith

    pub kids-both : (rule : Rule) (b : Bucket) (own other kid : Record) → b ≡ path_bucket h q (d + 1) → own ≡ record_at path (d * (z + 1))
        → other ≡ record_at sibs d → kid ≡ smallest rule (in_order b own other)
        → kid ≡ smallest rule (kids_shown h q (shown_in z path) (beside_in sibs) d)
    unfolding kids_shown whole_at
    kids-both rule b own other kid eb eo et e =
        let n : suc d - 1 ≡ d = omega arith in
        let f = records-at path (d * (z + 1)) dummy kid-ends in
        let g = records-at sibs d dummy (omega arith) in
        e ∙ rw (eb, eo, et, lt-ltb d h l, n, f, g, add-one)

-- ---- a clause that holds of all levels holds of each
pub least-true-at : (h : ℕ) (q : Leaf) (shown : ℕ → Contents) (beside : ℕ → Record) (rule : Rule) (d : ℕ) → 1 ≤ d → d ≤ h
    → leasts_true h q shown beside rule ≡ true → (shown d).least ≡ least_of rule (shown d).slots (kids_shown h q shown beside d)
unfolding leasts_true
least-true-at h q shown beside rule d some most s = same_true _ _ (every-each _ s (level_in 1 h d some (omega arith)))
