-- The work of a finish keeps a heap good: one path worked on, a removal, and a removal that finds nothing. Assumes nothing.
use Prim.Native.Nat.{suc, ◌≤◌, ◌<◌}
use mathlib.Core.Bool.{Bool, true, false, true≢false}
use mathlib.Core.List.{List, Memᴰ}
use mathlib.Core.Logic.{⊎_elim}
use mathlib.Core.Path.{◌≡◌, refl, sym, ap, ◌∙◌}
use native.Mathlib.Omega.{arith}
use lib.ListN.{length, get_or}
use borrow.Author.Tests.{ltb-true}
use Rattle.record.specs.declared.Leaf.{Leaf}
use Rattle.record.specs.declared.Bucket.{Bucket}
use Rattle.record.specs.declared.Stamp.{Stamp}
use Rattle.record.specs.declared.Record.{Record}
use Rattle.record.specs.declared.Rule.{Rule}
use Rattle.record.specs.Standing.{dummy, is_proper}
use Rattle.record.specs.Many.{every, stamp_twice}
use Rattle.record.proofs.StandingLaws.{proper-true, is-dummy}
use Rattle.record.proofs.ManyLaws.{every-each, each-every}
use Rattle.path.specs.declared.sizes.Sizes.{Sizes}
use Rattle.path.specs.Sizes.{leaves_of}
use Rattle.path.specs.Path.{path_bucket}
use Rattle.way.specs.Evict.{seek, evict}
use Rattle.clearing.specs.Removal.{found, removed}
use Rattle.clearing.proofs.RemovalLaws.{member-found, found-passes}
use Rattle.tree.specs.Tree.{Tree, InTree, way_of, slots_on, beside_of}
use Rattle.tree.specs.Path.{OffPath}
use Rattle.tree.specs.Work.{worked, taken}
use Rattle.tree.proofs.JoinLaws.{level-joined}
use Rattle.tree.proofs.WorkLaws.{bucket_after, worked-lays}
use Rattle.good.specs.Good.{Housed, LeastTrue, Good}
use Rattle.good.specs.Live.{without}
use Rattle.good.proofs.OnceLaws.{once-test, test-once}
use Rattle.good.proofs.FitLaws.{at_place}
use Rattle.good.proofs.PartsLaws.{Parts, housed-parts, parts-evicted, parts-housed}
use Rattle.good.proofs.ChangeLaws.{parts-absent, parts-removed}
use Rattle.good.proofs.LeastLaws.{mended-true}
use Rattle.good.proofs.LowLaws.{live-proper, live-real, live-label}
use Rattle.good.proofs.PickLaws.{Picks}
use Rattle.good.proofs.LiveLaws.{without_in, without_other, without-stay, without-once, without-length}

-- ---- one path worked on: only its own buckets' least records may have been false before
module _ (s : Sizes) (q : Leaf) (inside : q.0 < leaves_of s.h) (T : Tree) (old live w : List Record) (rule : Rule)
    (leaves : rule.leaves ≡ leaves_of s.h) (H : Housed s T old) (leasts : (b : Bucket) → InTree s.h b → OffPath s.h q b → LeastTrue rule s.h T b)
    (proper : every (is_proper rule) live ≡ true) (stamps : stamp_twice live ≡ false) (P : Parts s q T live w) where
  pub worked-good : Good s rule (worked rule s q w T) live
  worked-good =
      let lays = worked-lays rule s q inside w T in
      record {
        leaves = leaves;
        proper = proper;
        stamps = stamps;
        housed = parts-housed s q inside T (worked rule s q w T) old live (evict s.h s.z s.r q w) H
            (λ x m. proper-label x m)
            (parts-evicted s q T live w P) (bucket_after rule s q (beside_of s.h q T) (evict s.h s.z s.r q w)) lays (λ d l. refl);
        leasts = mended-true rule s q inside T (worked rule s q w T) (evict s.h s.z s.r q w) lays leasts;
      }
    where
      proper-label : (x : Record) → Memᴰ x live → x.label.0 < leaves_of s.h
      proper-label x m = omega (arith, leaves, (proper-true rule x (every-each _ proper m)).label)

-- ---- a removal
module _ (s : Sizes) (q : Leaf) (inside : q.0 < leaves_of s.h) (T : Tree) (live : List Record) (rule : Rule)
    (g : Good s rule T live) where
  abbrev way : List Record
  way = way_of s.h q T

  parts : Parts s q T live way
  parts = housed-parts s q inside T live g.housed (live-label s rule T live g)

  -- a live event with this label is on the way
  pub live-on-way : (x : Record) → Memᴰ x live → x.label ≡ q → Memᴰ x (way_of s.h q T)
  live-on-way x m e =
      let p = g.housed.seated x m in
      ⊎_elim (λ d. absurd (true≢false (sym is-dummy ∙ (rw d at (live-real s rule T live g x m)))))
      (λ r. let o = r.1 in level-joined (slots_on s.h q T) o.level s.h o.within
      (rw (o.is ∙ ap (λ (l : Leaf). path_bucket s.h l o.level) e) at p.2))
      (g.housed.stands p.0 p.1 x p.2)

  -- a test that names one event, by its stamp
  module _ (f : Record → Bool) (stamp : Stamp) (picks : Picks f stamp) where
    pub live-found : (x : Record) → Memᴰ x live → x.label ≡ q → f x ≡ true → found f (way_of s.h q T) ≡ true
    live-found x m l t = member-found f (live-on-way x m l) t

    abbrev there : Record
    there = get_or way (seek f (length way) way) dummy

    -- what is found is live
    pub found-live : found f (way_of s.h q T) ≡ true
        → Memᴰ (get_or (way_of s.h q T) (seek f (length (way_of s.h q T)) (way_of s.h q T)) dummy) live
    unfolding found
    found-live e =
        let r = picks there (found-passes f way dummy e) in
        ⊎_elim (λ d. absurd (true≢false (sym is-dummy ∙ (rw d at r.0)))) (λ m. m)
        (parts.stands there (at_place way _ (ltb-true _ _ e)))

    -- so there is one fewer without it
    pub taken-count : found f (way_of s.h q T) ≡ true → length live ≡ suc (length (without stamp live))
    taken-count e = without-length stamp live (found-live e) (picks there (found-passes f way dummy e)).1

    -- "replaces .. by the dummy"
    pub taken-good : found f (way_of s.h q T) ≡ true → Good s rule (taken rule s q f T) (without stamp live)
    taken-good e =
        let r = picks there (found-passes f way dummy e) in
        let once = test-once live g.stamps in
        worked-good s q inside T live (without stamp live) (removed f way) rule g.leaves g.housed (λ b t o. g.leasts b t)
        (each-every _ (without stamp live) (λ x m. live-proper s rule T live g x (without_in stamp live m)))
        (once-test (without-once stamp live once))
        (parts-removed s q T live way parts f e (without stamp live) r.0
        (λ x m. (without_in stamp live m, λ n. without_other stamp live (live-real s rule T live g) once m (sym n.stamp ∙ r.1)))
        (λ x m n. without-stay stamp live m (λ e. n (record { one = r.0; two = live-real s rule T live g x m; stamp = r.1 ∙ sym e }))))

    -- "or answers Absent and removes nothing"
    pub absent-good : found f (way_of s.h q T) ≡ false → Good s rule (taken rule s q f T) live
    absent-good e =
        worked-good s q inside T live live (removed f way) rule g.leaves g.housed (λ b t o. g.leasts b t)
        g.proper g.stamps (parts-absent s q T live way parts f e)
