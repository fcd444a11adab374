-- `record_comment::comment_of` meets its contract: a view of the image that a reply holds is one of the image that was read. Rests on
-- `read_then_comment`.
use Rattle.record_reading.specs.Held.{read_then_comment}
use Rattle.record_comment.proofs.comment_of.Goals as goal

pub returns : goal.returns
returns c =
    let r = c.read-reply.result in
    read_then_comment c.args.image r.held.image c.comment.result r.number r.count r.at r.held.fields c.read-reply.ensures c.comment.ensures
