-- `words::four` meets its contract. Rests on `four_bytes`, the bytes one by one.
use Prim.Native.Nat.{◌+◌}
use native.Mathlib.Omega.{arith}
use Rattle.fields.specs.Bytes.{AllBytes}
use Rattle.words.specs.Words.{four_bytes}
use Rattle.words.proofs.four.Goals as goal

pub returns : goal.returns
returns c = let a = c.args in
    let byte : AllBytes a.bytes.now = λ i. (c.type_inv.bytes i).fits in
    rw (four_bytes 0 a.bytes.now a.at (omega arith))
    (omega (arith, c.from_le_bytes.ensures), (byte a.at, (byte (a.at + 1), (byte (a.at + 2), (byte (a.at + 3), tt)))))
