-- `buffer_moves::move_left` meets its contract. Rests on `left_turn`, a turn of its loop.
use mathlib.Core.Path.{◌≡◌}
use lib.ListN.{length, drop}
use lib.Seq.{paste}
use Rattle.buffer_moves.proofs.move_left.Given as goal

abbrev pub invariant-loop-i : goal.invariant-loop-i
invariant-loop-i l = (l.out ≡ paste l.initial.out l.to (drop l.from l.initial.out) l.i) × (length l.out ≡ length l.initial.out)
