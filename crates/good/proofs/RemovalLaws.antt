-- ExtractMin and Delete on a good heap in words: what was fetched is not Damaged, what is found is the live event, and what
-- finish leaves, stored by the rack, is a good heap of the others. Assumes nothing.
use Prim.Native.Nat.{ℕ, suc, ◌+◌, ◌-◌, ◌≤◌, ◌<◌}
use mathlib.Core.Bool.{Bool, true, false}
use mathlib.Core.List.{List, ◌++◌}
use mathlib.Core.Path.{◌≡◌, refl, ap, ◌∙◌}
use native.Mathlib.Omega.{arith}
use lib.ListN.{length, take}
use Rattle.record.specs.declared.Leaf.{Leaf}
use Rattle.record.specs.declared.Stamp.{Stamp}
use Rattle.record.specs.declared.Record.{Record}
use Rattle.record.specs.declared.Rule.{Rule}
use Rattle.path.specs.declared.sizes.Sizes.{Sizes}
use Rattle.path.specs.Sizes.{leaves_of}
use Rattle.path.specs.Path.{root as the_root}
use Rattle.path.specs.Layout.{Contents, tree_words}
use Rattle.lists.specs.BucketList.{path_list}
use Rattle.clearing.specs.Removal.{found}
use Rattle.gather.specs.Shown.{siblings_shown, way_shown}
use Rattle.mend.specs.Mended.{path_words}
use Rattle.work.specs.RemovalWork.{removal_buckets, removal_root, removal_least, rooted}
use Rattle.sound.specs.Fetched.{path_fetched}
use Rattle.damage.specs.Damaged.{path_damaged}
use Rattle.damage.proofs.FetchedLaws.{path-alike}
use Rattle.copies.specs.Copy.{fetched, stored}
use Rattle.tree.specs.Tree.{Tree, way_of, tree_of}
use Rattle.tree.specs.Work.{taken}
use Rattle.tree.proofs.PathFetch.{tree-root, path-shows, path-sibling, path-way}
use Rattle.tree.proofs.Removal.{removal-stored}
use Rattle.good.specs.Good.{Good}
use Rattle.good.specs.Live.{without}
use Rattle.good.proofs.AlikeLaws.{alike-good}
use Rattle.good.proofs.DamageLaws.{shown_by, good-path}
use Rattle.good.proofs.PickLaws.{Picks}
use Rattle.good.proofs.WorkLaws.{taken-good, absent-good}

module _ (s : Sizes) (q : Leaf) (inside : q.0 < leaves_of s.h) (root : List Record) (full : s.r ≤ length root) (least : Record)
    (tree words : List ℕ) (size : length tree ≡ tree_words s.h s.z) (live : List Record) (rule : Rule)
    (g : Good s rule (tree_of s.z (take s.r root) least tree) live) where
  abbrev T : Tree
  T = tree_of s.z (take s.r root) least tree

  abbrev ws : List ℕ
  ws = fetched s.z tree (path_list s.h q) words

  abbrev way : List Record
  way = way_shown s.h s.z s.r root ws 0

  abbrev sibs : List Record
  sibs = siblings_shown s.z ws s.h 0 s.h

  way-is : way ≡ way_of s.h q T
  way-is = path-way s.h s.z s.r q inside root least tree words size

  -- ---- Damaged is denied
  pub path-undamaged : 1 ≤ s.h
      → path_damaged s.h s.r rule least (path_fetched s.h s.z q (fetched s.z tree (path_list s.h q) words))
      (way_shown s.h s.z s.r root (fetched s.z tree (path_list s.h q) words) 0) ≡ false
  path-undamaged high =
      path-alike s.h s.r high rule least way (path_fetched s.h s.z q ws) (shown_by s.h q T)
      (record {
        leaf = refl;
        shown = λ d l m.
            let e : suc (d - 1) ≡ d = omega arith in
            path-shows s.h s.z s.r q inside root least tree words size (d - 1) (omega arith) ∙ rw e;
        beside = λ d l m.
            let e : suc (d - 1) ≡ d = omega arith in
            let f : 0 + (d - 1) ≡ d - 1 = omega arith in
            rw f (path-sibling s.h s.z s.r q inside root least tree words size (d - 1) (omega arith) ∙ rw e);
      })
      ∙ rw way-is (rw top at (good-path s rule T live g q inside high))
    where
      top : (T the_root).least ≡ least
      top = ap (λ (c : Contents). c.least) (tree-root s.z (take s.r root) least tree)

  -- ---- what finish leaves, stored
  module _ (f : Record → Bool) (stamp : Stamp) (picks : Picks f stamp) (more : List ℕ) where
    abbrev after : Tree
    after =
        tree_of s.z (take s.r (rooted s.r (removal_root s q f way) root)) (removal_least rule s q f sibs way)
        (stored s.z (path_list s.h q).whole (path_words (removal_buckets rule s q f sibs way) ++ more) tree)

    pub removal-good : found f way ≡ true → Good s rule after (without stamp live)
    removal-good e =
        alike-good s (taken rule s q f T) after (removal-stored s q inside root full least tree words size f rule more)
        rule (without stamp live) (taken-good s q inside T live rule g f stamp picks (rw way-is at e))

    pub removal-absent : found f way ≡ false → Good s rule after live
    removal-absent e =
        alike-good s (taken rule s q f T) after (removal-stored s q inside root full least tree words size f rule more)
        rule live (absent-good s q inside T live rule g f stamp picks (rw way-is at e))
