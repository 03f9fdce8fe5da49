-- `nwidarap_find_min` meets its contract: as the card's own call on the card that is held. Assumes nothing.
use Rattle.card.specs.Calls.{min_table, found_min}
use Rattle.checks.specs.declared.Call.TheVariants.{Min}
use Rattle.held.proofs.HeldLaws.{none-called}
use Rattle.driver.proofs.DrivenLaws.{held-said}
use Rattle.driver.proofs.requests.nwidarap_find_min.Goals as goal

pub returns : goal.returns
returns c =
    held-said c.args.card.now min_table (none-called Min) found_min _ _ _ _ c.card_of-taken.ensures c.find_min-done.ensures c.say.ensures
