-- `words::two` meets its contract. Rests on `two_bytes`, the bytes one by one.
use Prim.Native.Nat.{◌+◌}
use native.Mathlib.Omega.{arith}
use Rattle.fields.specs.Bytes.{AllBytes}
use Rattle.words.specs.Words.{two_bytes}
use Rattle.words.proofs.two.Goals as goal

pub returns : goal.returns
returns c = let a = c.args in
    let byte : AllBytes a.bytes.now = λ i. (c.type_inv.bytes i).fits in
    rw (two_bytes a.bytes.now a.at (omega arith)) (omega (arith, c.from_le_bytes.ensures), (byte a.at, (byte (a.at + 1), tt)))
