-- `setting_record::write` meets its contract: the length, then what is packed is put. Rests on the callees' contracts and on `put-at`.
use native.Mathlib.Omega.{arith}
use mathlib.Core.Path.{refl}
use borrow.Author.Tests.{eq-eqb}
use Rattle.writer_reply.specs.Reply.{answered}
use Rattle.setting_record.specs.Record.{packed_reply, packed_left}
use Rattle.setting_record.specs.Places.{put_record}
use Rattle.setting_record.proofs.write.Goals as goal

pub returns-in-Ok : goal.returns-in-Ok
unfolding packed_reply packed_left
returns-in-Ok c = let l = c.if-bytes-ne4.false in
    rw (eq-eqb _ _ l, ← c.pack.ensures, c.in-Ok.is)
    (answered _ _ _ _ (refl, put_record _ 0 _ _ _ (omega arith) c.put_uint32.ensures))
