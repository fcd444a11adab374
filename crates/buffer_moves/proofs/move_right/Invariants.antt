-- `buffer_moves::move_right` meets its contract. Rests on `right_turn`, a turn of its loop.
use mathlib.Core.Path.{◌≡◌}
use Prim.Native.Nat.{◌+◌, ◌-◌}
use lib.ListN.{length, drop}
use lib.Seq.{paste}
use Rattle.buffer_moves.proofs.move_right.Given as goal

abbrev pub invariant-loop-i : goal.invariant-loop-i
invariant-loop-i l = (l.out ≡ paste l.initial.out (l.to + l.i) (drop (l.from + l.i) l.initial.out) (l.n - l.i)) × (length l.out ≡ length l.initial.out)
