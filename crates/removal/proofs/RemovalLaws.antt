-- A removal on the card's parts: the verdict on what was fetched, and what is left. Assumes nothing.
use Prim.Native.Nat.{ℕ, ◌+◌, ◌*◌, ◌-◌}
use mathlib.Core.Bool.{Bool, cond, ◌||◌}
use mathlib.Core.List.{List}
use mathlib.Core.Path.{◌≡◌, refl, ap, ◌∙◌}
use native.Mathlib.Omega.{arith}
use lib.ListN.{length}
use Rattle.std.specs.Prelude.{Result, Ok, Err}
use Rattle.record.specs.declared.Leaf.{Leaf}
use Rattle.record.specs.declared.Record.{Record}
use Rattle.record.specs.Words.{records}
use Rattle.path.specs.declared.sizes.Sizes.{Sizes}
use Rattle.path.specs.Layout.{record_words, bucket_words}
use Rattle.lists.specs.BucketList.{words_moved, path_list, moved}
use Rattle.lists.proofs.ListLaws.{moved-by-counts, path-counts}
use Rattle.writing.specs.Stored.{StoreRoom}
use Rattle.parts.specs.declared.Parts.{Parts}
use Rattle.work.specs.declared.removal.Removed.{Removed}
use Rattle.work.specs.RemovalWork.{PathRemoved}
use Rattle.settle.specs.declared.Damaged.{Damaged}
use Rattle.settle.specs.declared.Settled.{Settled}
use Rattle.settle.specs.Left.{Left, rule_after, removal, path_bad, bad_left, removal_damaged}
use Rattle.settle.specs.Room.{RemovalRoom}
use Rattle.settle.specs.Settled.{judged, Prepares}
use Rattle.settle.proofs.PreparedLaws.{told-damaged, told-done, not-prepared, is-prepared}
use Rattle.look.specs.declared.Looked.{Looked}
use Rattle.look.specs.Look.{PathLooks}

-- the words are long enough for the stores
pub store-room : (p : Parts) (q : Leaf) (ws path : List ℕ) → RemovalRoom p q ws → length path ≡ p.sizes.h * bucket_words p.sizes.z
    → StoreRoom p.sizes ws path
store-room p q ws path room e =
    let k = room.fetched in
    record { width = room.parts.sizes.width; buckets = e; room = omega arith }

module _ (p : Parts) (root : List Record) (ws : List ℕ) (q : Leaf) (f : Record → Bool)
    (w sibs : List ℕ) (seen : Looked) (looked : PathLooks p root ws q w sibs seen) where
  abbrev left : Left
  left = removal p root ws q f

  abbrev damaged : Bool
  damaged = removal_damaged p root ws q f

  told : damaged ≡ (path_bad p root ws q || bad_left p left)
  unfolding removal_damaged
  told = refl

  pub fetched-bad : (path : List ℕ) (e : Damaged) (out : Result Settled Damaged) → seen.fit ≡ Err e → out ≡ Err e
      → Prepares damaged left p.sizes.h path out
  fetched-bad path e out g h =
      let t = told-damaged _ _ seen.fit looked.verdict e g in
      not-prepared p damaged left p.sizes.h path out (told ∙ rw t) h

  -- what the work leaves, and its judgement
  pub left-judged : (path : List ℕ) (out : Removed) → PathRemoved (rule_after p) p.sizes q f (records sibs) (records w) root path out
      → (live : ℕ) → live ≡ cond out.found (p.c - 1) p.c → seen.fit ≡ Ok tt → (done : Result Settled Damaged)
      → done ≡ judged p (record { root = out.root; least = out.least; c = live; found = out.found; moved = seen.moved })
      → Prepares damaged left p.sizes.h path done
  unfolding removal
  left-judged path out work live count good done e =
      let a = rw (looked.way, looked.siblings) at work in
      let k : live ≡ left.c = count ∙ rw a.finds in
      let passed = (told-done _ _ seen.fit looked.verdict tt good).0 in
      is-prepared p damaged left p.sizes.h path done (path_bad p root ws q) _ told passed
      (λ i. record { root = a.root i; least = a.least i; c = k i; found = a.finds i; moved = looked.counted i }) a.buckets e

-- "4h(2Z+3)": the siblings' words, and those of the buckets fetched and stored
pub path-words : (s : Sizes) (q : Leaf)
    → s.h * record_words + s.h * (2 * bucket_words s.z) ≡ words_moved s.z (path_list s.h q)
path-words s q =
    let n : words_moved s.z (path_list s.h q) ≡ s.h * (2 * bucket_words s.z) + s.h * record_words =
    moved-by-counts s.z (path_list s.h q) ∙ ap (moved s.z) (path-counts s.h q) in
    omega arith
