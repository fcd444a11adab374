-- `writer_numbers::put_key` meets its contract: name, e and n, put one after the other, are the blob. Rests on the laws of runs.
use Rattle.format.specs.Format.{blob}
use Rattle.buffer.specs.Runs.{start, step, finish}
use Rattle.writer_numbers.proofs.put_key.Goals as goal

pub returns : goal.returns
unfolding blob
returns c room = let name = c.put_algorithm-a.ensures in
    finish (step (step (step (start room) name) c.put_string-b.ensures) c.put_string.ensures)
