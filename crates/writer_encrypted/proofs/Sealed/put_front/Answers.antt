-- `Sealed::put_front` meets its contract: six fields, put one after the other. Rests on the laws of runs.
use Rattle.format.specs.Format.{magic}
use Rattle.buffer.specs.Runs.{start, step, run, finish}
use Rattle.writer_encrypted.specs.Parts.{front}
use Rattle.writer_encrypted.proofs.Sealed.put_front.Goals as goal

pub returns : goal.returns
unfolding front magic
returns c room = let names = step (step (step (start room) c.put-a.ensures) c.put_cipher-b.ensures) c.put_kdf-c.ensures in
    finish (step (step (run names c.put_options-d.ensures) c.put_uint32-e.ensures) c.put_uint32.ensures)
