use mathlib.Core.Path.{sym, ◌∙◌}
use Rattle.lists.proofs.ListLaws.{path_room, path-counts, path-laid}
use Rattle.lists.proofs.list_path.Goals as goal

pub name_path-requires : goal.name_path-requires
name_path-requires c = (path_room _ _ _ c.requires.h_bound c.requires.leaf_in_bounds).0

pub name_siblings-requires : goal.name_siblings-requires
name_siblings-requires c =
    rw c.name_path.auto.list (path_room _ _ _ c.requires.h_bound c.requires.leaf_in_bounds).1

pub returns : goal.returns
returns c =
    let s = c.args in
    record {
      places = path-laid s.sizes.h s.leaf s.list.now _ _ c.name_path.ensures c.name_siblings.ensures;
      counted = c.path_counts.ensures ∙ sym (path-counts s.sizes.h s.leaf);
    }
