-- `nwidarap_store` meets its contract: as the rack's own call. Assumes nothing.
use Rattle.driver.proofs.DrivenLaws.{racked}
use Rattle.driver.proofs.store.nwidarap_store.Goals as goal

pub returns : goal.returns
returns c =
    racked _ _ _ _ _ _ _ c.store-said.ensures c.tell.ensures
