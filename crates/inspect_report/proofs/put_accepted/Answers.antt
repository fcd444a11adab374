-- `inspect_report::put_accepted` meets its contract: by the kind, eight lines or seven, put one after the other, are one put of them all.
-- Rests on the laws of runs, and on `lines_short`.
use Rattle.buffer.specs.Runs.{start, step, run, runs, finish}
use Rattle.inspect_report.specs.Report.{Plain, Encrypted, accepted, line, names, lines}
use Rattle.inspect_report.specs.Short.{lines_short}
use Rattle.inspect_report.proofs.put_accepted.Goals as goal

pub returns-in-Plain : goal.returns-in-Plain
unfolding accepted lines line
returns-in-Plain c = let a = c.args in
    let h = a.f.now.header in
    let x = a.f.now.section in
    rw c.in-Plain.is (
      lines_short (Plain h.algorithm h.public.bits h.cipher h.kdf x.comment.length x.padding a.image a.form)
          (c.put_names-b.ensures.fits, c.put_number-c.ensures.fits, c.put_number-d.ensures.fits, c.put_number-e.ensures.fits),
      λ room.
          let four = runs (names h.algorithm h.public.bits h.cipher h.kdf) (step (start room) c.put-a.ensures) c.put_names-b.ensures.run in
          let seven = run (run (run four c.put_number-c.ensures.run) c.put_number-d.ensures.run) c.put_number-e.ensures.run in
          finish (step seven c.put_form.ensures),
    )

pub returns-in-Encrypted : goal.returns-in-Encrypted
unfolding accepted lines line
returns-in-Encrypted c = let a = c.args in
    let h = a.f.now.header in
    let x = a.f.now.section in
    let b = c.put_names-b-in-Encrypted.ensures in
    let d = c.put_number-c-in-Encrypted.ensures in
    let e = c.put_number-d-in-Encrypted.ensures in
    rw c.in-Encrypted.is (
      lines_short (Encrypted h.algorithm h.public.bits h.cipher h.kdf x.ciphertext.length x.tag.length a.image)
          (b.fits, d.fits, e.fits, c.put_number.ensures.fits),
      λ room.
          let four = runs (names h.algorithm h.public.bits h.cipher h.kdf) (step (start room) c.put-a-in-Encrypted.ensures) b.run in
          finish (run (run (run four d.run) e.run) c.put_number.ensures.run),
    )
