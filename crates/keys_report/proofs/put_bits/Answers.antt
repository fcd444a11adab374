-- `keys_report::put_bits` meets its contract: only RSA has bits. Rests on the laws of runs.
use Rattle.buffer.specs.Puts.{nothing_put}
use Rattle.buffer.specs.Runs.{start, step, finish}
use Rattle.keys_report.specs.Lines.{bits_word}
use Rattle.keys_report.proofs.put_bits.Goals as goal

pub returns-in-Elliptic : goal.returns-in-Elliptic
unfolding bits_word
returns-in-Elliptic c = rw c.in-Elliptic.is (λ room. nothing_put _ _)

pub returns-in-Rsa : goal.returns-in-Rsa
unfolding bits_word
returns-in-Rsa c = rw c.in-Rsa.is (λ room. finish (step (step (start room) c.put-a.ensures) c.put_decimal.ensures))
