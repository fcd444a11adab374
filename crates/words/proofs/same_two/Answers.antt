-- `words::same_two` meets its contract. Rests on what a piece of two words to compare is.
use native.Mathlib.Omega.{arith}
use Rattle.words.specs.Words.{no_piece, piece_words}
use Rattle.words.proofs.same_two.Goals as goal

pub returns-then-n-lt2 : goal.returns-then-n-lt2
returns-then-n-lt2 c = let a = c.args in
    no_piece 2 a.name.now a.text.now c.if-n-lt2.true

pub two-requires : goal.two-requires
two-requires c = omega arith

pub two-requires-2 : goal.two-requires-2
two-requires-2 c = omega arith

pub returns : goal.returns
returns c = let a = c.args in
    piece_words 2 a.name.now a.text.now c.two.result c.two-2.result (omega arith) c.if-n-lt2.false (omega arith)
    c.two.ensures c.two-2.ensures
