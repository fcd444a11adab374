-- `utf8::ascii_block` meets its contract. The loop's invariant: if the bytes so far have no top bit together, they are ASCII. Rests on `byte_ors`,
-- a byte more.
use native.Mathlib.Omega.{arith}
use Rattle.utf8.proofs.Ascii.{byte_ors}
use Rattle.utf8.proofs.ascii_block.Goals as goal

pub loop-b-preserved : goal.loop-b-preserved
loop-b-preserved c = byte_ors c.args.block.now c.loop-b.b-index c.loop-b.all (omega arith) c.loop-b.invariant
