-- `writer_rows::pair_length_at` meets its contract: the parts are the key's. Rests on the callees' contracts.
use Rattle.writer_rows.proofs.pair_length_at.Goals as goal

pub returns : goal.returns
returns c = let parts = c.parts_at-key.ensures in
    rw (← parts.algorithm, ← parts.public, ← parts.private) c.pair_length.ensures
