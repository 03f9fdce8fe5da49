-- `begin` meets its contract: as the card's own begin on the card that is held. Assumes nothing.
use Rattle.driver.proofs.DrivenLaws.{held-begin}
use Rattle.driver.proofs.requests.begin.Goals as goal

pub returns : goal.returns
returns c =
    let a = c.args in
    held-begin a.request a.card.now a.list.now _ _ _ _ _ _ c.card_of-taken.ensures c.begin-done.ensures c.settle.ensures
