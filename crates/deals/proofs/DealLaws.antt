-- The dealing of two sequences side by side: the k-th to leave has the label of the k-th to leave, each label is used once, and all
-- are below N. Assumes nothing.
use Prim.Native.Nat.{ℕ, ◌<◌}
use mathlib.Core.List.{List, map, Permᴰ}
use mathlib.Core.Path.{◌≡◌, refl, sym, ap, ◌∙◌, subst}
use lib.ListN.{length, length-map}
use lib.Pow.{pow_pos}
use Rattle.path.specs.declared.sizes.Sizes.{Sizes}
use Rattle.path.specs.Sizes.{leaves_of}
use Rattle.demands.specs.Queue.{Reference, empty_queue}
use Rattle.world.specs.World.{World, Call}
use Rattle.deals.specs.Sequences.{requests, blanks, labels}
use Rattle.deals.specs.Dealing.{leaving, stamps_leaving, labels_leaving, deal, dealt}
use Rattle.deals.proofs.LeavingLaws.{perm-all, perm-nodup, perm-length, paired-names, paired-all, made, stamps, made-nodup, leaving-perm}
use Rattle.deals.proofs.TwinLaws.{Twin}
use Rattle.deals.proofs.ThereLaws.{twin-first, twin-second, twin-stamps, twin-labels, twin-below, labels-given}

module _ {s : Sizes} {u : World} {cs ds : List Call} (tw : Twin s u empty_queue empty_queue cs ds) where
  first-leaves : Permᴰ (leaving empty_queue (requests cs)) (made 0 (requests cs))
  first-leaves = leaving-perm empty_queue (requests cs) (twin-first tw)

  second-leaves : Permᴰ (leaving empty_queue (blanks ds)) (made 0 (blanks ds))
  second-leaves = leaving-perm empty_queue (blanks ds) (twin-second tw refl)

  as_many : length (stamps_leaving ds) ≡ length (labels_leaving cs)
  as_many =
      let a = length-map (leaving empty_queue (blanks ds)) (λ r. r.stamp) in
      let b = length-map (leaving empty_queue (requests cs)) (λ r. r.label) in
      let c = length-map (made 0 (requests cs)) (λ r. r.stamp) in
      let d = length-map (made 0 (blanks ds)) (λ r. r.stamp) in
      let e = ap (λ (ns : List ℕ). length ns) (twin-stamps tw 0) in
      a ∙ perm-length second-leaves ∙ sym d ∙ sym e ∙ c ∙ sym (perm-length first-leaves) ∙ sym b

  pub deal-is : map (deal cs ds) (stamps_leaving ds) ≡ labels_leaving cs
  unfolding deal
  deal-is =
      paired-names (stamps_leaving ds) (labels_leaving cs)
      (perm-nodup (mathlib.Core.List.Permᴰ.map (λ (r : Reference). r.stamp) (mathlib.Core.List.Permᴰ.symm second-leaves)) (made-nodup 0 (blanks ds))) as_many

  -- the labels of the first as they leave are its labels
  same-labels : Permᴰ (labels_leaving cs) (labels cs)
  same-labels =
      subst (Permᴰ (labels_leaving cs)) (sym (twin-labels tw 0)) (mathlib.Core.List.Permᴰ.map (λ (r : Reference). r.label) first-leaves)

  pub deal-once : Permᴰ (labels (dealt cs ds)) (labels cs)
  deal-once =
      let f = deal cs ds in
      let p : Permᴰ (map f (stamps (made 0 (blanks ds)))) (map f (stamps_leaving ds)) =
      mathlib.Core.List.Permᴰ.map f (mathlib.Core.List.Permᴰ.map (λ (r : Reference). r.stamp) (mathlib.Core.List.Permᴰ.symm second-leaves)) in
      subst (λ (ls : List ℕ). Permᴰ ls (labels cs)) (sym (labels-given f 0 ds))
      (mathlib.Core.List.Permᴰ.trans p (subst (λ (ls : List ℕ). Permᴰ ls (labels cs)) (sym deal-is) same-labels))

  pub deal-below : (stamp : ℕ) → deal cs ds stamp < leaves_of s.h
  unfolding deal
  deal-below stamp =
      paired-all (λ l. l < leaves_of s.h) (stamps_leaving ds) (labels_leaving cs) (pow_pos s.h)
      (perm-all (λ l. l < leaves_of s.h) (mathlib.Core.List.Permᴰ.symm same-labels) (twin-below tw)) stamp
