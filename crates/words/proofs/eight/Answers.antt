-- `words::eight` meets its contract. Rests on `eight_apart`, the bytes one by one.
use Prim.Native.Nat.{◌+◌}
use native.Mathlib.Omega.{arith}
use Rattle.fields.specs.Bytes.{AllBytes}
use Rattle.words.specs.Words.{eight_apart}
use Rattle.words.proofs.eight.Goals as goal

pub returns : goal.returns
returns c = let a = c.args in
    let byte : AllBytes a.bytes.now = λ i. (c.type_inv.bytes i).fits in
    rw (eight_apart a.bytes.now a.at (omega arith))
    (omega (arith, c.from_le_bytes.ensures), (byte a.at, (byte (a.at + 1), (byte (a.at + 2), (byte (a.at + 3), (byte (a.at + 4), (byte (a.at + 5), (byte (a.at + 6), (byte (a.at + 7), tt)))))))))
