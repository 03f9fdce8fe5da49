-- `nwidarap_finish` meets its contract: as the card's own finish on the card that is held. Assumes nothing.
use Rattle.driver.proofs.DrivenLaws.{held-finish}
use Rattle.driver.proofs.requests.nwidarap_finish.Goals as goal

pub returns : goal.returns
returns c =
    let a = c.args in
    held-finish a.card.now a.words.now _ _ _ _ _ _ c.card_of-taken.ensures c.finish-done.ensures c.settle.ensures
