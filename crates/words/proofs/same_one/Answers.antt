-- `words::same_one` meets its contract. Rests on what the piece of one byte is.
use native.Mathlib.Omega.{arith}
use Rattle.words.specs.Words.{no_piece, piece_one}
use Rattle.words.proofs.same_one.Goals as goal

pub returns-then-text-lt1 : goal.returns-then-text-lt1
returns-then-text-lt1 c = no_piece 1 c.args.name.now c.args.text.now c.if-text-lt1.true

pub bounds-name-0 : goal.bounds-name-0
bounds-name-0 c = omega arith

pub bounds-text-0 : goal.bounds-text-0
bounds-text-0 c = omega arith

pub returns : goal.returns
returns c = let a = c.args in
    piece_one a.name.now a.text.now (omega arith) c.if-text-lt1.false
