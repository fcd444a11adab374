-- `inspect_report::put_number` meets its contract: three puts, one after the other, are one put of label, number and line feed.
-- Rests on the laws of runs.
use native.Mathlib.Omega.{arith}
use Rattle.buffer.specs.Runs.{start, step, finish}
use Rattle.inspect_report.specs.Report.{line}
use Rattle.inspect_report.proofs.put_number.Goals as goal

pub returns : goal.returns
unfolding line
returns c = record { run = λ room. finish (step (step (step (start room) c.put-a.ensures) c.put_decimal-b.ensures) c.put.ensures); fits = omega arith }
