-- `writer_listed::put_others` meets its contract: key by key. Rests on the laws of runs and on the callees' contracts.
use Prim.Native.Nat.{◌+◌, ◌≤◌}
use lib.ListN.{length}
use Rattle.fields.specs.Bytes.{join}
use Rattle.buffer.specs.Runs.{Left}
use Rattle.writer_listed.specs.Steps.{rows_at}
use Rattle.writer_listed.proofs.put_others.Given as goal

abbrev pub invariant-loop-k : goal.invariant-loop-k
invariant-loop-k l =
    l.at + length (join (rows_at l.image l.fn.second l.places 1 l.count)) ≤ length l.initial.table
    → Left l.initial.table l.at (rows_at l.image l.fn.second l.places 1 l.count) (rows_at l.image l.blob l.places l.k l.count) l.past l.table
