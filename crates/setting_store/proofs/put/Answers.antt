-- `setting_store::put` meets its contract: device and length, then what is packed is put. Rests on the callees' contracts and on
-- `put_record`.
use native.Mathlib.Omega.{arith}
use Rattle.std.proofs.Common.{◌≡◌, true, refl, sym, ◌∙◌, length, eqb-true, leb-true}
use Rattle.fields.specs.Bytes.{both_true}
use Rattle.writer_reply.specs.Reply.{answered}
use Rattle.setting_record.specs.Record.{packed_reply, packed_left}
use Rattle.setting_record.specs.Places.{put_record}
use Rattle.setting_store.specs.Store.{has_place}
use Rattle.setting_store.proofs.put.Goals as goal

pub returns-in-Ok : goal.returns-in-Ok
unfolding packed_reply packed_left
returns-in-Ok c = let device = c.args.device in
    let store = c.args.store.now in
    let has : has_place store device ≡ true = sym c.has_place.ensures ∙ c.if-not-has_place.false in
    let p = both_true _ _ has in
    let low = leb-true device _ p.0 in
    let size = eqb-true (length store) _ p.1 in
    rw (has, ← c.pack.ensures, c.in-Ok.is)
    (answered _ _ _ _ (refl, put_record _ _ _ _ _ (omega arith) c.put_uint32.ensures))
