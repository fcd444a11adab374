-- `words::same_eight` meets its contract. Rests on what a piece of two words to compare is.
use native.Mathlib.Omega.{arith}
use Rattle.words.specs.Words.{no_piece, piece_words}
use Rattle.words.proofs.same_eight.Goals as goal

pub returns-then-n-lt8 : goal.returns-then-n-lt8
returns-then-n-lt8 c = let a = c.args in
    no_piece 8 a.name.now a.text.now c.if-n-lt8.true

pub eight-requires : goal.eight-requires
eight-requires c = omega arith

pub eight-requires-2 : goal.eight-requires-2
eight-requires-2 c = omega arith

pub returns : goal.returns
returns c = let a = c.args in
    piece_words 8 a.name.now a.text.now c.eight.result c.eight-2.result (omega arith) c.if-n-lt8.false (omega arith)
    c.eight.ensures c.eight-2.ensures
