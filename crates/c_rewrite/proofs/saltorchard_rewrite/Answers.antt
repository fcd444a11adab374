-- `c_rewrite::saltorchard_rewrite` meets its contract: the reply is handed on. Rests on the callees' contracts.
use Rattle.c_reply.specs.Replies.{handed_on}
use Rattle.c_rewrite.proofs.saltorchard_rewrite.Goals as goal

pub returns : goal.returns
returns c = handed_on _ _ _ _ _ c.reply_of.ensures c.rewrite.ensures
