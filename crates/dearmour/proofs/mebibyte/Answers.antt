-- A mebibyte of zeros has its length, by the law: counted, it takes more stack than the checker has.
use Prim.Native.Nat.{ℕ}
use mathlib.Core.Path.{sym}
use lib.ListN.{length-replicate}
use Rattle.dearmour.proofs.mebibyte.Goals as goal

pub returns : goal.returns
returns c = sym (length-replicate {0} {A = ℕ} 1048576 0)
