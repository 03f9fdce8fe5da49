use borrow.Author.Rules.{rules}
use Rattle.std.proofs.lemmas.List.{map-id}
use Rattle.lists.proofs.name_path.Goals as goal

pub returns : goal.returns
returns c = simp map-id at (c.name.ensures (λ bucket. bucket) (λ b r l p. search rules))
