-- `utf8::ascii_bytes` meets its contract. The loop's invariant: the bytes before the index are of the run. Rests on `run_over` and `run_on`, what one
-- byte tells of a run.
use native.Mathlib.Omega.{arith}
use Rattle.utf8.proofs.Ascii.{run_within, run_on, run_over}
use Rattle.utf8.proofs.ascii_bytes.Goals as goal

pub returns-then-b-ge128 : goal.returns-then-b-ge128
returns-then-b-ge128 c = run_over c.args.text.now c.loop-i.i c.loop-i.invariant (omega arith) (omega arith)

pub loop-i-preserved : goal.loop-i-preserved
loop-i-preserved c = run_on c.args.text.now c.loop-i.i c.loop-i.invariant (omega arith) (omega arith)

pub returns : goal.returns
returns c = omega (arith, run_within c.args.text.now)
