-- `words::same_sixteen` meets its contract: nothing is left, or two words of eight. Rests on `same_from`, a word and what comes after it.
use native.Mathlib.Omega.{arith}
use Prim.Native.Nat.{◌+◌, ◌%◌}
use mathlib.Core.Path.{sym}
use borrow.Author.Tests.{eq-eqb, ne_eqb}
use lib.ListN.{length}
use Rattle.fields.specs.Bytes.{same_end, and_true}
use Rattle.words.specs.Words.{same_from}
use Rattle.words.proofs.same_sixteen.Goals as goal

pub returns-then-n-lt16 : goal.returns-then-n-lt16
returns-then-n-lt16 c = let a = c.args in
    sym (same_end a.name.now a.text.now (length a.text.now % 16) (omega arith) (omega arith))

pub eight-requires : goal.eight-requires
eight-requires c = omega arith

pub eight-requires-2 : goal.eight-requires-2
eight-requires-2 c = omega arith

pub returns-then-eight : goal.returns-then-eight
returns-then-eight c = let a = c.args in
    let x = c.eight in
    let y = c.eight-2 in
    let at = length a.text.now % 16 in
    rw (same_from 8 a.name.now a.text.now at x.result y.result (omega arith) (omega arith) x.ensures y.ensures, ne_eqb _ _ c.if-eight.true)

pub overflow_add-at : goal.overflow_add-at
overflow_add-at c = omega arith

pub eight-requires-3 : goal.eight-requires-3
eight-requires-3 c = omega arith

pub overflow_add-at-2 : goal.overflow_add-at-2
overflow_add-at-2 c = omega arith

pub eight-requires-4 : goal.eight-requires-4
eight-requires-4 c = omega arith

pub returns : goal.returns
returns c = let a = c.args in
    let x = c.eight in
    let y = c.eight-2 in
    let u = c.eight-3 in
    let v = c.eight-4 in
    let at = length a.text.now % 16 in
    rw (same_from 8 a.name.now a.text.now at x.result y.result (omega arith) (omega arith) x.ensures y.ensures, eq-eqb _ _ c.if-eight.false, same_from 8 a.name.now a.text.now (at + 8) u.result v.result (omega arith) (omega arith) u.ensures v.ensures, same_end a.name.now a.text.now (at + 8 + 8) (omega arith) (omega arith)) (and_true _)
