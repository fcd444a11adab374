-- `writer_rows::put_blob_at` meets its contract: the parts are the key's. Rests on the callees' contracts.
use Rattle.writer_rows.proofs.put_blob_at.Goals as goal

pub returns : goal.returns
returns c = let parts = c.parts_at-key.ensures in
    rw (← parts.algorithm, ← parts.public) c.put_blob.ensures
