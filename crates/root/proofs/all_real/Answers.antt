-- `all_real` meets its contract. Assumes nothing.
use Rattle.root.proofs.Slots.{full-slots}
use Rattle.root.proofs.all_real.Goals as goal

pub returns : goal.returns
returns c = full-slots _ _ _ _ c.lowest_dummy.ensures c.is_none.ensures
