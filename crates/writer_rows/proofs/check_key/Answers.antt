-- `writer_rows::check_key` meets its contract: the parts are the key's. Rests on the callees' contracts and on what filling changes.
use Rattle.writer_table.specs.Table.{key_at}
use Rattle.writer_rows.proofs.Parts.{taken_algorithm, taken_public, taken_private}
use Rattle.writer_rows.proofs.check_key.Goals as goal

pub returns : goal.returns
returns c = let a = c.args in
    let k = key_at a.text.now a.table.now a.j in
    let parts = c.parts_at-key.ensures in
    let private = taken_private a.filling c.parts_at-key.result k parts.algorithm parts.private in
    rw (taken_algorithm a.filling k, taken_public a.filling k, ← private, ← parts.algorithm, ← parts.public) c.check.ensures
