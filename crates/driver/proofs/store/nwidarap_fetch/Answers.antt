-- `nwidarap_fetch` meets its contract: as the rack's own call. Assumes nothing.
use Rattle.driver.proofs.DrivenLaws.{racked}
use Rattle.driver.proofs.store.nwidarap_fetch.Goals as goal

pub returns : goal.returns
returns c =
    racked _ _ _ _ _ _ _ c.fetch-said.ensures c.tell.ensures
