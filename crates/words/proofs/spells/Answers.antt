-- `words::spells` meets its contract. Rests on `in_pieces`: bytes are the same where their pieces are.
use native.Mathlib.Omega.{arith}
use Rattle.fields.specs.Bytes.{not_as_long}
use Rattle.words.specs.Words.{in_pieces}
use Rattle.words.proofs.spells.Goals as goal

pub returns-then-name-n : goal.returns-then-name-n
returns-then-name-n c = let a = c.args in
    not_as_long a.name.now a.text.now c.if-name-n.true

pub returns-then-n-ge32 : goal.returns-then-n-ge32
returns-then-n-ge32 c = c.same.ensures

pub same_one-requires : goal.same_one-requires
same_one-requires c = omega arith

pub returns-then-not-same_one : goal.returns-then-not-same_one
returns-then-not-same_one c = let a = c.args in
    rw (in_pieces a.name.now a.text.now, ← c.same_one.ensures, c.if-not-same_one.true)

pub same_two-requires : goal.same_two-requires
same_two-requires c = omega arith

pub returns-then-not-same_two : goal.returns-then-not-same_two
returns-then-not-same_two c = let a = c.args in
    rw (in_pieces a.name.now a.text.now, ← c.same_one.ensures, c.if-not-same_one.false, ← c.same_two.ensures, c.if-not-same_two.true)

pub same_four-requires : goal.same_four-requires
same_four-requires c = omega arith

pub returns-then-not-same_four : goal.returns-then-not-same_four
returns-then-not-same_four c = let a = c.args in
    rw (in_pieces a.name.now a.text.now, ← c.same_one.ensures, c.if-not-same_one.false, ← c.same_two.ensures, c.if-not-same_two.false, ← c.same_four.ensures, c.if-not-same_four.true)

pub same_eight-requires : goal.same_eight-requires
same_eight-requires c = omega arith

pub returns-then-not-same_eight : goal.returns-then-not-same_eight
returns-then-not-same_eight c = let a = c.args in
    rw (in_pieces a.name.now a.text.now, ← c.same_one.ensures, c.if-not-same_one.false, ← c.same_two.ensures, c.if-not-same_two.false, ← c.same_four.ensures, c.if-not-same_four.false, ← c.same_eight.ensures, c.if-not-same_eight.true)

pub same_sixteen-requires : goal.same_sixteen-requires
same_sixteen-requires c = omega arith

pub returns : goal.returns
returns c = let a = c.args in
    rw (in_pieces a.name.now a.text.now, ← c.same_one.ensures, c.if-not-same_one.false, ← c.same_two.ensures, c.if-not-same_two.false, ← c.same_four.ensures, c.if-not-same_four.false, ← c.same_eight.ensures, c.if-not-same_eight.false) c.same_sixteen.ensures
