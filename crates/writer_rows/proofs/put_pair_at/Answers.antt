-- `writer_rows::put_pair_at` meets its contract: the parts are the key's. Rests on the callees' contracts.
use Rattle.writer_rows.proofs.put_pair_at.Goals as goal

pub returns : goal.returns
returns c = let parts = c.parts_at-key.ensures in
    rw (← parts.algorithm, ← parts.public, ← parts.private) c.put_pair.ensures
