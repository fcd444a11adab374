-- `utf8::is_utf8` meets its contract. The loop's invariant: a character may begin at `i`, and the text from there on answers for the whole.
-- The measure is what is left of the length. Rests on `past`, where ASCII ends, and on the contract of `past_characters`.
use native.Mathlib.Omega.{arith}
use mathlib.Core.Path.{◌∙◌}
use lib.ListN.{drop_of_length-le}
use Rattle.utf8.specs.Utf8.{utf8_from, utf8}
use Rattle.utf8.proofs.Ascii.{run_within, first_part, past}
use Rattle.utf8.proofs.is_utf8.Goals as goal

pub loop-i-init : goal.loop-i-init
loop-i-init c = let s = c.args.text.now in
    (omega (arith, c.past_blocks-i.ensures, run_within s), (first_part c.past_blocks-i.result s c.past_blocks-i.ensures).1)

pub loop-i-smaller-then-b-lt128 : goal.loop-i-smaller-then-b-lt128
loop-i-smaller-then-b-lt128 c = let p = past _ _ c.loop-i-test.true (omega arith) c.past_ascii-i.ensures in
    omega (arith, p.0, p.1)

pub loop-i-preserved-then-b-lt128 : goal.loop-i-preserved-then-b-lt128
loop-i-preserved-then-b-lt128 c = let p = past _ _ c.loop-i-test.true (omega arith) c.past_ascii-i.ensures in
    (p.1, p.2 ∙ c.loop-i.invariant.1)

pub returns : goal.returns
unfolding utf8 utf8_from
returns c = rw (← c.loop-i.invariant.1, drop_of_length-le _ c.loop-i-test.false)
