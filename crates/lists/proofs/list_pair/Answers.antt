use mathlib.Core.Path.{sym, ◌∙◌}
use Rattle.lists.proofs.ListLaws.{pair-room, pair-counts, pair-laid}
use Rattle.lists.proofs.list_pair.Goals as goal

pub name_path-requires : goal.name_path-requires
name_path-requires c = (pair-room _ _ _ _ c.requires.le_h c.requires.first_bound c.requires.second_in_bounds).first-path

pub name_path-requires-2 : goal.name_path-requires-2
name_path-requires-2 c = rw c.name_path.auto.list (pair-room _ _ _ _ c.requires.le_h c.requires.first_bound c.requires.second_in_bounds).second-path

pub name_siblings-requires : goal.name_siblings-requires
name_siblings-requires c =
    rw (c.name_path-2.auto.list, c.name_path.auto.list) (pair-room _ _ _ _ c.requires.le_h c.requires.first_bound c.requires.second_in_bounds).first-siblings

pub name_siblings-requires-2 : goal.name_siblings-requires-2
name_siblings-requires-2 c =
    rw (c.name_siblings.auto.list, c.name_path-2.auto.list, c.name_path.auto.list) (pair-room _ _ _ _ c.requires.le_h c.requires.first_bound c.requires.second_in_bounds).second-siblings

pub returns : goal.returns
returns c =
    let s = c.args in
    let some = c.requires.le_h.0 in
    record {
      places = pair-laid s.sizes.h s.first s.second s.list.now some _ _ _ _ c.name_path.ensures c.name_path-2.ensures c.name_siblings.ensures c.name_siblings-2.ensures;
      counted = c.pair_counts.ensures ∙ sym (pair-counts s.sizes.h s.first s.second some);
    }
