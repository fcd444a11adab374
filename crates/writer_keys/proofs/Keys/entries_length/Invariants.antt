-- `Keys::entries_length` meets its contract: what is added up and what is left are the whole. Rests on the laws of capped sums.
use Prim.Native.Nat.{◌-◌, ◌*◌}
use mathlib.Core.List.{map}
use Rattle.format.specs.Format.{written_entry}
use Rattle.format.specs.Lengths.{entries_length}
use Rattle.writer_keys.specs.Passes.{keys_from, Summed}
use Rattle.writer_keys.proofs.Keys.entries_length.Given as goal

abbrev pub invariant-loop-i : goal.invariant-loop-i
invariant-loop-i l =
    Summed l.sum (entries_length (map written_entry (keys_from l.self.text.now l.self.table.now (19 * l.i) (l.self.count - l.i)))) (entries_length (map written_entry (keys_from l.self.text.now l.self.table.now 0 l.self.count)))
