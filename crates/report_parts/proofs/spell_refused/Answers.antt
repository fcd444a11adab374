-- `report_parts::spell_refused` meets its contract: seven puts, one after the other, are one put of the line.
-- Rests on the laws of runs, and on `refused_short`.
use native.Mathlib.Omega.{arith}
use Rattle.buffer.specs.Runs.{start, step, finish}
use Rattle.report_parts.specs.Parts.{refused_line, refused_short}
use Rattle.report_parts.proofs.spell_refused.Goals as goal

pub returns : goal.returns
unfolding refused_line
returns c = let number = c.number-number in
    let fit = c.ranges in
    let count = c.count in
    rw (← number.ensures, ← count.ensures) (
      refused_short number.result count.result _ (omega arith) (omega arith) (omega (arith, fit)),
      λ room.
          finish
          (step
          (step
          (step (step (step (step (step (start room) c.put-a.ensures) c.put_decimal-b.ensures) c.put-c.ensures) c.put_decimal-d.ensures)
          c.put-e.ensures)
          c.put_decimal-f.ensures)
          c.put.ensures),
    )
