-- `rounds::carry::carry` meets its contract: what fetch, finish and store promise is put together by proofs/CarryLaws.antt. Assumes nothing.
use mathlib.Core.Path.{ap}
use Rattle.refusal.specs.Reason.{refusal_in}
use Rattle.world.specs.World.{holding_list}
use Rattle.rounds.proofs.CarryLaws.{fetch-refuses, finish-refuses, all_done_lem}
use Rattle.rounds.proofs.carry.carry.Goals as goal

pub returns-in-Err : goal.returns-in-Err
returns-in-Err c =
    let s = c.args in
    fetch-refuses s.card (holding_list s.begun s.tree.now s.list.now s.n) _ _ c.fetch-fetched.ensures _ c.in-Err.is _ (rw c.number.ensures at c.refuse.ensures)

pub returns-in-Refused : goal.returns-in-Refused
returns-in-Refused c =
    let s = c.args in
    finish-refuses s.card (holding_list s.begun s.tree.now s.list.now s.n) _ _ c.fetch-fetched.ensures (ap refusal_in c.in_default.is) _ _ c.finish-done.ensures _ c.in-Refused.is _ c.refuse-in-Refused.ensures

pub returns : goal.returns
returns c =
    let s = c.args in
    all_done_lem s.card (holding_list s.begun s.tree.now s.list.now s.n) _ _ c.fetch-fetched.ensures (ap refusal_in c.in_default.is) _ _ c.finish-done.ensures c.in_default-answer.not-Refused _ _ c.store.ensures
