-- `nwidarap_withdraw` meets its contract: as the card's own call on the card that is held. Assumes nothing.
use Rattle.card.specs.Calls.{withdraw_table, withdrawn}
use Rattle.checks.specs.declared.Call.TheVariants.{Withdraw}
use Rattle.held.proofs.HeldLaws.{none-called}
use Rattle.driver.proofs.DrivenLaws.{held-called}
use Rattle.driver.proofs.requests.nwidarap_withdraw.Goals as goal

pub returns : goal.returns
returns c =
    let a = c.args in
    held-called a.card.now withdraw_table (none-called Withdraw) withdrawn _ _ _ _ c.card_of-taken.ensures c.withdraw-done.ensures _ c.settle.ensures
