-- `inspect_report::put_bits` meets its contract: only RSA has the line. Rests on the callee's contract.
use native.Mathlib.Omega.{arith}
use Rattle.buffer.specs.Puts.{nothing_put}
use Rattle.inspect_report.specs.Report.{bits_line}
use Rattle.inspect_report.proofs.put_bits.Goals as goal

pub returns-in-Elliptic : goal.returns-in-Elliptic
unfolding bits_line
returns-in-Elliptic c = record { run = rw c.in-Elliptic.is (λ room. nothing_put _ _); fits = omega arith }

pub returns-in-Rsa : goal.returns-in-Rsa
unfolding bits_line
returns-in-Rsa c = record { run = rw c.in-Rsa.is c.put_number.ensures.run; fits = omega arith }
