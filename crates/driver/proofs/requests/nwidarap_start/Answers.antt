-- `nwidarap_start` meets its contract: as the card's own start. Assumes nothing.
use Rattle.told.proofs.ToldLaws.{called}
use Rattle.driver.proofs.requests.nwidarap_start.Goals as goal

pub returns : goal.returns
returns c = called _ _ _ _ _ _ _ _ c.start-done.ensures c.settle.ensures
