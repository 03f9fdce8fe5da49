-- `head_words` meets its contract: the six words of the request follow the other six. Assumes nothing.
use Rattle.kinds.proofs.KindLaws.{request-words}
use Rattle.image.proofs.head_words.Goals as goal

pub returns : goal.returns
returns c = rw (c.request_words-q.ensures, request-words c.args.waiting)
