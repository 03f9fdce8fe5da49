-- A good heap on card and rack: the card's parts and the tree's words, between two requests or while one waits. Assumes
-- nothing.
use Rattle.std.specs.Prelude.{ℕ, ◌≤◌, true, List, ◌≡◌, length, take, drop}
use Rattle.record.specs.declared.Record.{Record}
use Rattle.record.specs.Standing.{is_dummy}
use Rattle.record.specs.Many.{every}
use Rattle.path.specs.Sizes.{leaves_of, in_range}
use Rattle.path.specs.Layout.{tree_words}
use Rattle.parts.specs.declared.Parts.{Parts}
use Rattle.parts.specs.Parts.{rule_of}
use Rattle.tree.specs.Tree.{tree_of}
use Rattle.good.specs.Good.{Good}
use Rattle.good.specs.Live.{Ascending}

pub record Heap (p : Parts) (root : List Record) (tree : List ℕ) (live : List Record) : Type 0 where
  pub sizes : in_range p.sizes ≡ true
  pub spent : p.t ≤ p.sizes.t
  -- "the count c of live events", "at most N events live"
  pub count : p.c ≡ length live
  pub most : p.c ≤ leaves_of p.sizes.h
  pub begun : p.c ≤ p.t
  -- the live events in the order of insertion
  pub order : Ascending live
  -- the root's 64 places, those past R with the dummy
  pub places : length root ≡ 64
  pub past : every is_dummy (drop p.sizes.r root) ≡ true
  -- "The tree has exactly 4(Z+1)(2N-2) words."
  pub words : length tree ≡ tree_words p.sizes.h p.sizes.z
  pub good : Good p.sizes (rule_of p) (tree_of p.sizes.z (take p.sizes.r root) p.least tree) live
