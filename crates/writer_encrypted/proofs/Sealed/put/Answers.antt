-- `Sealed::put` meets its contract: front, blob, ciphertext and tag, put one after the other. Rests on the laws of runs.
use Rattle.buffer.specs.Runs.{start_as, step, run, finish_as}
use Rattle.writer_encrypted.specs.Parts.{encrypted_fields, encrypted_joined}
use Rattle.writer_encrypted.proofs.Sealed.put.Goals as goal

pub returns : goal.returns
unfolding encrypted_fields
returns c room = let x = c.args.self.now in
    let joined = encrypted_joined x.cipher x.kdf x.salt.now x.rounds x.blob.now x.ciphertext.now x.tag.now in
    finish_as _ joined
    (step (step (step (run (start_as _ joined room) c.put_front-a.ensures) c.put-b.ensures) c.put_string-c.ensures) c.put.ensures)
