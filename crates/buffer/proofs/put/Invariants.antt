-- `buffer::put` meets its contract: after i turns the first i bytes are pasted, and all of them at the end.
-- Rests on `copied` and `no_put` of one put, and on the library's `paste`.
use mathlib.Core.Path.{◌≡◌}
use lib.ListN.{length}
use lib.Seq.{paste}
use Rattle.buffer.proofs.put.Given as goal

abbrev pub invariant-loop-i : goal.invariant-loop-i
invariant-loop-i l = (l.out ≡ paste l.initial.out l.at l.bytes l.i) × (length l.out ≡ length l.initial.out)
