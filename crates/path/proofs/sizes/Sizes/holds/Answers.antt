use borrow.Author.Rules.{rules}
use Rattle.path.specs.Path.{holds}
use Rattle.path.proofs.sizes.Sizes.holds.Goals as goal

pub returns : goal.returns
unfolding holds
returns c = rw (← c.bucket_at.ensures) (search rules)
