-- The rack's part of a request on a ready card: no number of its list is outside. Assumes nothing.
use Prim.Native.Nat.{ℕ}
use mathlib.Core.Bool.{false}
use mathlib.Core.List.{List, []}
use mathlib.Core.Path.{◌≡◌}
use native.Mathlib.Omega.{arith}
use Rattle.record.specs.declared.Leaf.{Leaf}
use Rattle.record.specs.declared.Stamp.{Stamp}
use Rattle.record.specs.declared.Record.{Record}
use Rattle.lists.specs.BucketList.{numbers}
use Rattle.path.proofs.SizesLaws.{in-range}
use Rattle.rack.specs.Answers.{any_outside}
use Rattle.rack.proofs.ListedLaws.{path-list-inside, pair-list-inside}
use Rattle.card.specs.declared.Card.{Card}
use Rattle.request.specs.declared.Request.{Request}
use Rattle.request.specs.declared.Request.TheVariants.{Insert, Extract, Delete}
use Rattle.card.specs.Tables.{parts_of, request_table}
use Rattle.card.specs.Calls.{list_of}
use Rattle.card.proofs.BeginLaws.{insertable, extractable, deletable}
use Rattle.refusal.specs.Refusal.{first_given}
use Rattle.good.proofs.FoundLaws.{least-inside}
use Rattle.served.specs.Ready.{Ready}

-- ---- the list of the request that waits
module _ (k : Card) (tree : List ℕ) (live : List Record) (r : Ready k tree live) where
  insert-inside : (key value : ℕ) (label first second : Leaf) → first_given (request_table k (Insert key value label first second)) ≡ 0
      → any_outside k.sizes.h (numbers (list_of k (Insert key value label first second))) ≡ false
  unfolding list_of
  insert-inside key value label first second e =
      let i = insertable k key value label first second e in
      let low = i.first in
      pair-list-inside k.sizes.h first second (in-range k.sizes r.heap.sizes).tree.height.0 (omega arith) i.second.1

  extract-inside : first_given (request_table k Extract) ≡ 0 → any_outside k.sizes.h (numbers (list_of k Extract)) ≡ false
  unfolding list_of
  extract-inside e =
      let some = (extractable k e).some in
      path-list-inside k.sizes.h k.least.label
      (least-inside (parts_of k) k.root tree [] live r.heap (omega arith))

  delete-inside : (label : Leaf) (stamp : Stamp) → first_given (request_table k (Delete label stamp)) ≡ 0
      → any_outside k.sizes.h (numbers (list_of k (Delete label stamp))) ≡ false
  unfolding list_of
  delete-inside label stamp e = path-list-inside k.sizes.h label (deletable k label stamp e).label

  pub list_inside : (q : Request) → first_given (request_table k q) ≡ 0 → any_outside k.sizes.h (numbers (list_of k q)) ≡ false
  list_inside (Insert key value label first second) e = insert-inside key value label first second e
  list_inside Extract e = extract-inside e
  list_inside (Delete label stamp) e = delete-inside label stamp e
