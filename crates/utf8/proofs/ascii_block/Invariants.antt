-- `utf8::ascii_block` meets its contract. The loop's invariant: if the bytes so far have no top bit together, they are ASCII. Rests on `byte_ors`,
-- a byte more.
use Rattle.utf8.specs.Steps.{ascii_run}
use Prim.Native.Nat.{◌<◌, ◌≤◌}
use Rattle.utf8.proofs.ascii_block.Given as goal

abbrev pub invariant-loop-b : goal.invariant-loop-b
invariant-loop-b l = l.all < 0x80 → l.b-index ≤ ascii_run l.block
