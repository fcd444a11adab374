-- `writer_listed::put_numbers` meets its contract: after i turns the first i numbers are pasted, and all of them at the end.
-- Rests on `copied` and `no_put` of one put, and on the library's `paste`.
use mathlib.Core.Path.{◌≡◌}
use lib.ListN.{length}
use lib.Seq.{paste}
use Rattle.writer_listed.proofs.put_numbers.Given as goal

abbrev pub invariant-loop-i : goal.invariant-loop-i
invariant-loop-i l = (l.table ≡ paste l.initial.table l.at l.numbers l.i) × (length l.table ≡ length l.initial.table)
