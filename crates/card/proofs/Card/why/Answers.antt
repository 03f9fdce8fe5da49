use Rattle.card.proofs.PartsLaws.{why-told}
use Rattle.card.proofs.Card.why.Goals as goal

pub returns : goal.returns
returns c = why-told c.args.self _ c.parts.ensures _ _ c.why.ensures
