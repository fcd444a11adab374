-- `mpint::zeros_before` meets its contract: i is never more than the zeros before the first byte that isn't zero.
-- Rests on the laws of `zeros_before`.
use Rattle.std.proofs.Common.{arith, add-one}
use Rattle.mpint.specs.Zeros.{zeros_le, zeros_here, zeros_next}
use Rattle.mpint.proofs.zeros_before.Goals as goal

pub returns-then-byte-ne0 : goal.returns-then-byte-ne0
returns-then-byte-ne0 c = zeros_here c.args.bytes.now c.loop-i.i c.loop-i.invariant c.if-byte-ne0.true

pub loop-i-preserved : goal.loop-i-preserved
loop-i-preserved c = rw add-one (zeros_next c.args.bytes.now c.loop-i.i c.loop-i.invariant (omega arith) c.if-byte-ne0.false)

pub returns : goal.returns
returns c = omega (arith, zeros_le c.args.bytes.now)
