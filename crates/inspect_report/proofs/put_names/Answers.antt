-- `inspect_report::put_names` meets its contract: three lines, put one after the other, are one put of them all.
-- Rests on the laws of runs.
use Rattle.buffer.specs.Runs.{start, run, finish}
use Rattle.names_spelling.specs.Spelling.{algorithm_spelled, cipher_spelled, kdf_spelled}
use Rattle.inspect_report.specs.Report.{names}
use Rattle.inspect_report.proofs.put_names.Goals as goal

pub returns : goal.returns
unfolding names
returns c = let one = rw c.algorithm_name-algorithm.ensures at c.put_name-a.ensures in
    let two = rw c.cipher_name.ensures at c.put_name-c.ensures in
    let three = rw c.kdf_name.ensures at c.put_name.ensures in
    record {
      run = rw (← algorithm_spelled _, ← cipher_spelled _, ← kdf_spelled _) (λ room. finish (run (run (run (run (start room) one) c.put_bits-b.ensures.run) two) three));
      fits = c.put_bits-b.ensures.fits;
    }
