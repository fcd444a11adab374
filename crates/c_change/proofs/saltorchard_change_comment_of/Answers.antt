-- `c_change::saltorchard_change_comment_of` meets its contract: the reply is handed on. Rests on the callees' contracts.
use Rattle.c_reply.specs.Replies.{handed_on}
use Rattle.c_change.proofs.saltorchard_change_comment_of.Goals as goal

pub returns : goal.returns
returns c = handed_on _ _ _ _ _ c.reply_of.ensures c.change_comment_of.ensures
