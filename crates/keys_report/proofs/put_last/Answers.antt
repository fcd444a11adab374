-- `keys_report::put_last` meets its contract: by the kind, the comment's length or a word. Rests on the laws of runs.
use Rattle.buffer.specs.Runs.{start, step, finish}
use Rattle.keys_report.specs.Lines.{last_word}
use Rattle.keys_report.proofs.put_last.Goals as goal

pub returns-in-Plain : goal.returns-in-Plain
unfolding last_word
returns-in-Plain c = rw c.in-Plain.is (λ room. finish (step (step (start room) c.put-a.ensures) c.put_decimal.ensures))

pub returns-in-Encrypted : goal.returns-in-Encrypted
unfolding last_word
returns-in-Encrypted c = rw c.in-Encrypted.is (λ room. c.put.ensures)
