-- `words::same_four` meets its contract. Rests on what a piece of two words to compare is.
use native.Mathlib.Omega.{arith}
use Rattle.words.specs.Words.{no_piece, piece_words}
use Rattle.words.proofs.same_four.Goals as goal

pub returns-then-n-lt4 : goal.returns-then-n-lt4
returns-then-n-lt4 c = let a = c.args in
    no_piece 4 a.name.now a.text.now c.if-n-lt4.true

pub four-requires : goal.four-requires
four-requires c = omega arith

pub four-requires-2 : goal.four-requires-2
four-requires-2 c = omega arith

pub returns : goal.returns
returns c = let a = c.args in
    piece_words 4 a.name.now a.text.now c.four.result c.four-2.result (omega arith) c.if-n-lt4.false (omega arith)
    c.four.ensures c.four-2.ensures
