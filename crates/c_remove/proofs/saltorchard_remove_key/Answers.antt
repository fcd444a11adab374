-- `c_remove::saltorchard_remove_key` meets its contract: the reply is handed on. Rests on the callees' contracts.
use Rattle.c_reply.specs.Replies.{handed_on}
use Rattle.c_remove.proofs.saltorchard_remove_key.Goals as goal

pub returns : goal.returns
returns c = handed_on _ _ _ _ _ c.reply_of.ensures c.remove_key.ensures
