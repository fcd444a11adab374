-- `keys_report::put_line` meets its contract: six puts, one after the other, are one put of the line.
-- Rests on the laws of runs, and on `line_short`.
use native.Mathlib.Omega.{arith}
use Rattle.buffer.specs.Runs.{start, step, run, finish}
use Rattle.names_spelling.specs.Spelling.{algorithm_spelled}
use Rattle.keys_report.specs.Lines.{key_line}
use Rattle.keys_report.specs.Short.{line_short}
use Rattle.keys_report.proofs.put_line.Goals as goal

pub returns : goal.returns
unfolding key_line
returns c = let a = c.args in
    let fit = c.ranges in
    let name = rw c.algorithm_name.ensures at c.put_name-c.ensures in (
      line_short a.number a.algorithm a.bits a.kind a.comment (omega (arith, fit)) (omega (arith, fit)) (omega (arith, fit)),
      rw (← algorithm_spelled a.algorithm)
          (λ room.
          finish
          (step
          (run
          (run (step (step (step (start room) c.put_decimal-a.ensures) c.put-b.ensures) name) c.put_bits-d.ensures)
          c.put_last-e.ensures)
          c.put.ensures)),
    )
