-- `Keys::put_blobs` meets its contract: key by key. Rests on the laws of runs and on the callee's contract.
use Prim.Native.Nat.{◌+◌, ◌-◌, ◌*◌, ◌≤◌}
use lib.ListN.{length}
use Rattle.fields.specs.Bytes.{join}
use Rattle.buffer.specs.Runs.{Left}
use Rattle.writer_keys.specs.Passes.{keys_from, blobs_of}
use Rattle.writer_keys.proofs.Keys.put_blobs.Given as goal

abbrev pub invariant-loop-i : goal.invariant-loop-i
invariant-loop-i l =
    l.at + length (join (blobs_of (keys_from l.self.text.now l.self.table.now 0 l.self.count))) ≤ length l.initial.out
    → Left l.initial.out l.at (blobs_of (keys_from l.self.text.now l.self.table.now 0 l.self.count)) (blobs_of (keys_from l.self.text.now l.self.table.now (19 * l.i) (l.self.count - l.i))) l.past l.out
