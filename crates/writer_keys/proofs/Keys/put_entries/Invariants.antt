-- `Keys::put_entries` meets its contract: key by key. Rests on the laws of runs and on the callees' contracts.
use Prim.Native.Nat.{◌+◌, ◌-◌, ◌*◌, ◌≤◌}
use lib.ListN.{length}
use Rattle.fields.specs.Bytes.{join}
use Rattle.buffer.specs.Runs.{Left}
use Rattle.writer_keys.specs.Passes.{keys_from, entries_of}
use Rattle.writer_keys.proofs.Keys.put_entries.Given as goal

abbrev pub invariant-loop-i : goal.invariant-loop-i
invariant-loop-i l =
    l.at + length (join (entries_of (keys_from l.self.text.now l.self.table.now 0 l.self.count))) ≤ length l.initial.out
    → Left l.initial.out l.at (entries_of (keys_from l.self.text.now l.self.table.now 0 l.self.count)) (entries_of (keys_from l.self.text.now l.self.table.now (19 * l.i) (l.self.count - l.i))) l.past l.out
