-- `mpint::modulus_size` meets its contract: too few or too many bytes remain, or the bits are counted.
-- Rests on the bounds that the bytes that remain put on the bits.
use native.Mathlib.Omega.{arith}
use lib.Count.{leading_le}
use Rattle.mpint.specs.Mpint.{bits}
use Rattle.mpint.specs.Zeros.{zeros_le, bits_most, bits_least, size_below, size_above, size_is}
use Rattle.mpint.proofs.modulus_size.Goals as goal
use Rattle.mpint.proofs.modulus_size.Goals.{then-left-lt128-via-then-left-lt128, then-left-lt128-via-else-left-lt128+then-left-gt1024}

pub overflow_sub-left : goal.overflow_sub-left
overflow_sub-left c = omega (arith, c.zeros_before-i.ensures, zeros_le c.args.bytes.now)

pub returns-then-left-lt128 : goal.returns-then-left-lt128
returns-then-left-lt128 c = let b = c.args.bytes.now in elim c.then-left-lt128.branch [
  | then-left-lt128-via-then-left-lt128 w ↦
      let left = rw c.zeros_before-i.ensures at w.if-left-lt128.true in
      size_below b (omega (arith, bits_most b, left))
  | then-left-lt128-via-else-left-lt128+then-left-gt1024 w ↦
      let left = rw c.zeros_before-i.ensures at w.if-left-gt1024.true in
      size_above b (omega (arith, bits_least b (omega (arith, left)), left))
]

pub overflow_sub-bits : goal.overflow_sub-bits
overflow_sub-bits c = omega (arith, leading_le 8 c.byte.result, c.if-left-lt128.false)

pub returns-then-bits-lt1024 : goal.returns-then-bits-lt1024
unfolding bits
returns-then-bits-lt1024 c = let b = c.args.bytes.now in
    size_below b (rw (c.byte.ensures, c.zeros_before-i.ensures) at c.if-bits-lt1024.true)

pub returns : goal.returns
unfolding bits
returns c = let b = c.args.bytes.now in
    let left = rw c.zeros_before-i.ensures at c.if-left-gt1024.false in
    let many = rw (c.byte.ensures, c.zeros_before-i.ensures) at c.if-bits-lt1024.false in
    rw (c.byte.ensures, c.zeros_before-i.ensures) (size_is b many (omega (arith, bits_most b, left)))
