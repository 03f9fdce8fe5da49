-- `replies::answer_line` meets its contract: what the line says, done and printed. Assumes nothing.
use Rattle.replies.proofs.ReplyLaws.{line-printed}
use Rattle.replies.proofs.answer_line.Goals as goal

pub returns : goal.returns
returns c =
    let s = c.args in
    line-printed s.out.now _ _ s.desk.now s.line.now s.tree.now _ _ _ c.read_line-said.ensures c.step-reply.ensures c.print_reply.ensures
