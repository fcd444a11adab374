-- `armour_export::put_rest` meets its contract: no byte, one or two are left.
use native.Mathlib.Omega.{arith}
use Rattle.armour_text.specs.Places.{encode_none, encode_one, encode_two}
use Rattle.armour_export.specs.Stores.{moves_none}
use Rattle.armour_export.proofs.put_rest.Goals as goal

pub returns-then-left-eq0 : goal.returns-then-left-eq0
returns-then-left-eq0 c = let a = c.args in
    rw (encode_none a.bytes.now a.p.next (omega arith)) (moves_none _ _ _)

pub returns-then-left-eq1 : goal.returns-then-left-eq1
returns-then-left-eq1 c = let a = c.args in
    let n = c.bits-n.ensures in
    rw (encode_one a.bytes.now a.p.next (omega arith), ← n, ← c.sign.ensures, ← c.sign-then-left-eq1.ensures) c.put_four.ensures.1

pub returns : goal.returns
returns c = let a = c.args in
    let n = c.bits-n-2.ensures in
    rw (encode_two a.bytes.now a.p.next (omega arith), ← n, ← c.sign-2.ensures, ← c.sign-3.ensures, ← c.sign-4.ensures) c.put_four-2.ensures.1
