-- `keys_report::put_key` meets its contract: the line of the key that is looked up, or nothing. Rests on the callees' contracts.
use native.Mathlib.Omega.{arith}
use Rattle.buffer.specs.Puts.{nothing_put}
use Rattle.keys_report.specs.Lines.{line_of}
use Rattle.keys_report.proofs.put_key.Goals as goal

pub returns-in-None : goal.returns-in-None
unfolding line_of
returns-in-None c = rw (← c.key_of.ensures, c.in-None.is) (omega arith, λ room. nothing_put _ _)
