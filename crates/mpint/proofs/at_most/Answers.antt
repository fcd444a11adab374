-- `mpint::at_most` meets its contract: where as many bytes remain, the leading zeros compare the bits, and otherwise the bytes that remain do.
-- Rests on the two comparison laws of `bits`.
use native.Mathlib.Omega.{arith}
use Rattle.mpint.specs.Zeros.{zeros_le, compare_zeros, compare_remaining}
use Rattle.mpint.proofs.at_most.Goals as goal

pub overflow_sub-x_left : goal.overflow_sub-x_left
overflow_sub-x_left c = omega (arith, c.zeros_before-i.ensures, zeros_le c.args.x.now)

pub overflow_sub-y_left : goal.overflow_sub-y_left
overflow_sub-y_left c = omega (arith, c.zeros_before-j.ensures, zeros_le c.args.y.now)

pub returns-then-x_left-y_left : goal.returns-then-x_left-y_left
returns-then-x_left-y_left c = let a = c.args in
    let i = c.zeros_before-i.ensures in
    let j = c.zeros_before-j.ensures in
    rw (c.byte.ensures, c.byte-then-x_left-y_left.ensures, i, j) (compare_zeros a.x.now a.y.now (rw (i, j) at c.if-x_left-y_left.true))

pub returns : goal.returns
returns c = let a = c.args in
    let i = c.zeros_before-i.ensures in
    let j = c.zeros_before-j.ensures in
    rw (i, j) (compare_remaining a.x.now a.y.now (rw (i, j) at c.if-x_left-y_left.false))
