-- `Sealed::options_length` meets its contract: the KDF picks the length. Rests on the lengths of a string and a uint32.
use native.Mathlib.Omega.{arith}
use lib.ListN.{length-append}
use Rattle.fields.specs.Rest.{length-uint32, length-string}
use Rattle.writer_encrypted.proofs.Sealed.options_length.Goals as goal

pub returns-in-None : goal.returns-in-None
returns-in-None c = (rw c.in-None.is, omega arith)

pub returns-in-Bcrypt : goal.returns-in-Bcrypt
returns-in-Bcrypt c = (rw c.in-Bcrypt.is (simp (length-append, length-string, length-uint32) (omega arith)), omega arith)
