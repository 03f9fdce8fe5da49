-- A good heap: document 01, "Records and numbering". `live` are the live events. Assumes nothing.
use Rattle.std.specs.Prelude.{ℕ, true, false, cond, ◌⊎◌, ◌≡◌, ltb, eqb, length}
use mathlib.Core.List.{List, [], ◌∷◌, Memᴰ}
use Rattle.record.specs.declared.Bucket.{Bucket}
use Rattle.record.specs.declared.Record.{Record}
use Rattle.record.specs.declared.Rule.{Rule}
use Rattle.record.specs.Standing.{dummy, is_dummy, is_proper}
use Rattle.record.specs.Order.{least_of}
use Rattle.record.specs.Many.{every, stamp_twice}
use Rattle.path.specs.declared.sizes.Sizes.{Sizes}
use Rattle.path.specs.Sizes.{leaves_of}
use Rattle.path.specs.Path.{number, lower_child, upper_child}
use Rattle.tree.specs.Tree.{Tree, InTree}
use Rattle.tree.specs.Path.{OnPath}

-- "Z slots in each bucket below the root", "R slots in the root"
abbrev pub width : Sizes → Bucket → ℕ
width s b = cond (eqb (number b) 1) s.r s.z

-- Where the live events stand.
pub record Housed (s : Sizes) (T : Tree) (live : List Record) : Type 0 where
  pub sized : (b : Bucket) → InTree s.h b → length (T b).slots ≡ width s b
  -- a slot holds the dummy, or a live event whose path holds its bucket, and "nothing else may stand in a slot"
  pub stands :
      (b : Bucket) → InTree s.h b → (x : Record) → Memᴰ x (T b).slots
      → (x ≡ dummy) ⊎ (Memᴰ x live × OnPath s.h x.label b)
  -- each live event has a slot
  pub seated : (x : Record) → Memᴰ x live → (b : Bucket) × InTree s.h b × Memᴰ x (T b).slots
  -- and no other: no two slots of one bucket, nor of two, hold one stamp
  pub once : (b : Bucket) → InTree s.h b → stamp_twice (T b).slots ≡ false
  pub apart :
      (a b : Bucket) → InTree s.h a → InTree s.h b → (x y : Record) → Memᴰ x (T a).slots → Memᴰ y (T b).slots
      → is_dummy x ≡ false → is_dummy y ≡ false → x.stamp.0 ≡ y.stamp.0 → a ≡ b

-- the least records of a bucket's two children, "the lower child" first
abbrev pub both_children : Tree → Bucket → List Record
both_children T b = (T (lower_child b)).least ∷ (T (upper_child b)).least ∷ []

-- those of any bucket: a leaf's has no children
unfoldable pub children_in : ℕ → Tree → Bucket → List Record
children_in h T b = cond (ltb (number b) (leaves_of h)) (both_children T b) []

-- "The least record is the smallest of its own slots and its children's least records, or the dummy"
abbrev pub LeastTrue : Rule → ℕ → Tree → Bucket → Type 0
LeastTrue rule h T b = (T b).least ≡ least_of rule (T b).slots (children_in h T b)

-- A good heap: `rule` says what is proper, and which record is smaller.
pub record Good (s : Sizes) (rule : Rule) (T : Tree) (live : List Record) : Type 0 where
  -- "label below N"
  pub leaves : rule.leaves ≡ leaves_of s.h
  pub proper : every (is_proper rule) live ≡ true
  pub stamps : stamp_twice live ≡ false
  pub housed : Housed s T live
  pub leasts : (b : Bucket) → InTree s.h b → LeastTrue rule s.h T b
