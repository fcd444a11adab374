-- `utf8::past_blocks` meets its contract. The loop's invariant: the bytes of the blocks before the index are ASCII. Rests on `block_on`.
use Rattle.utf8.specs.Steps.{ascii_run}
use Prim.Native.Nat.{◌*◌, ◌≤◌}
use Rattle.utf8.proofs.past_blocks.Given as goal

abbrev pub invariant-loop-i : goal.invariant-loop-i
invariant-loop-i l = l.i * 128 ≤ ascii_run l.text
