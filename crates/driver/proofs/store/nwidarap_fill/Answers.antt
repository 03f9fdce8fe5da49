-- `nwidarap_fill` meets its contract: as the rack's own call. Assumes nothing.
use Rattle.driver.proofs.DrivenLaws.{racked}
use Rattle.driver.proofs.store.nwidarap_fill.Goals as goal

pub returns : goal.returns
returns c =
    racked _ _ _ _ _ _ _ c.fill-said.ensures c.tell.ensures
