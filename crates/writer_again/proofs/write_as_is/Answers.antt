-- `writer_again::write_as_is` meets its contract: refused for the room, or put whole. Rests on the laws of a write by its length.
use Rattle.writer_reply.specs.Sized.{no_room, done}
use Rattle.writer_again.proofs.write_as_is.Goals as goal

pub returns-then-out-image : goal.returns-then-out-image
returns-then-out-image c = rw c.refused.ensures (no_room c.args.image.now c.args.out.now c.requires c.if-out-image.true)

pub returns : goal.returns
returns c = done c.args.image.now c.args.out.now _ _ c.requires c.if-out-image.false (λ fit. c.put.ensures)
