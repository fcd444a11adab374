-- `writer_numbers::fits` meets its contract: bytes that the modulus's bits fill are within them.
-- Rests on the law `short_fits` of bits, and on `at_most`.
use native.Mathlib.Omega.{arith}
use mathlib.Core.Path.{sym}
use borrow.Author.Tests.{le-leb}
use lib.ListN.{length}
use Prim.Native.Nat.{◌/◌}
use Rattle.mpint.specs.Laws.{size_inside}
use Rattle.mpint.specs.Zeros.{short_fits}
use Rattle.writer_numbers.proofs.fits.Goals as goal

pub returns-then-number-bits : goal.returns-then-number-bits
returns-then-number-bits c = let a = c.args in
    let size = (size_inside a.n.now a.bits c.requires).1 in
    rw (le-leb (length a.number.now) (a.bits / 8) (omega arith)) (sym (short_fits a.number.now a.n.now (omega (arith, size))))
