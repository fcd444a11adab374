-- `inspect_report::put_name` meets its contract: three puts, one after the other, are one put of label, name and line feed.
-- Rests on the laws of runs.
use Rattle.buffer.specs.Runs.{start, step, finish}
use Rattle.inspect_report.specs.Report.{line}
use Rattle.inspect_report.proofs.put_name.Goals as goal

pub returns : goal.returns
unfolding line
returns c room = finish (step (step (step (start room) c.put-a.ensures) c.put_name-b.ensures) c.put.ensures)
