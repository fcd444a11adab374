-- `armour_export::export` meets its contract. Rests on the text's size being known, and on `put_text`.
use Rattle.armour_export.specs.Whole.{too_large, no_room, done}
use Rattle.armour_export.proofs.export.Goals as goal

pub returns-then-bytes-gt65535 : goal.returns-then-bytes-gt65535
returns-then-bytes-gt65535 c = let a = c.args in
    rw c.refused.ensures (too_large a.bytes.now a.out.now c.if-bytes-gt65535.true)

pub returns-then-out-size : goal.returns-then-out-size
returns-then-out-size c = let a = c.args in
    rw c.refused-then-out-size.ensures (no_room a.bytes.now a.out.now c.if-bytes-gt65535.false (rw c.size_of-size.ensures at c.if-out-size.true))

pub returns : goal.returns
returns c = let a = c.args in
    let z = c.size_of-size.ensures in
    rw z (done a.bytes.now a.out.now c.if-bytes-gt65535.false (rw z at c.if-out-size.false) _ c.put_text.ensures)
