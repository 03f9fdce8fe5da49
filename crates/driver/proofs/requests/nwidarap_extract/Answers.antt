-- `nwidarap_extract` meets its contract: as `begin`. Assumes nothing.
use Rattle.driver.proofs.requests.nwidarap_extract.Goals as goal

pub returns : goal.returns
returns c = c.begin.ensures
