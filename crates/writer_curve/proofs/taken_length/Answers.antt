-- `writer_curve::taken_length` meets its contract: the mode says whether the zeros that are missing are counted. Rests on the laws of key material.
use Prim.Native.Nat.{◌<◌, ◌^◌}
use native.Mathlib.Omega.{arith}
use lib.ListN.{length}
use Rattle.key_material.specs.Laws.{filled_size, filled_bounded}
use Rattle.writer_curve.proofs.taken_length.Goals as goal

pub overflow_add-result : goal.overflow_add-result
overflow_add-result c = let a = c.args in
    let long : length a.scalar.now < 2 ^ 64 = omega arith in
    omega (arith, c.zeros_missing.ensures, filled_bounded a.algorithm a.scalar.now long)

pub returns-then-filling : goal.returns-then-filling
returns-then-filling c = rw c.if-filling.true (omega (arith, c.zeros_missing.ensures, filled_size c.args.algorithm c.args.scalar.now))
