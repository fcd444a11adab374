-- `utf8::past_row` meets its contract. The loop's invariant: a character of the row begins at `at`, and what is left after its first byte answers
-- for what is left after that at `from`. The measure is what is left of the length. Rests on `row_goes_on`, what a first byte of the
-- row does.
use native.Mathlib.Omega.{arith}
use borrow.Author.Rules.{rules}
use mathlib.Core.Bool.{true}
use mathlib.Core.Path.{◌≡◌, ◌∙◌, sym}
use Rattle.utf8.specs.Utf8.{◌to◌}
use Rattle.utf8.specs.Steps.{lies_at}
use Rattle.utf8.proofs.Bytes.{there, row_goes_on}
use Rattle.utf8.proofs.past_row.Goals as goal

pub loop-end-preserved : goal.loop-end-preserved
loop-end-preserved c = let e = c.in_ok-end.ensures in
    let l : lies_at (c.args.low to c.args.high) c.args.text.now c.in_ok-end.end ≡ true = search rules in
    (omega (arith, e.0), there _ _ _ l, row_goes_on _ _ _ _ _ c.requires.left_value l ∙ sym e.2 ∙ c.loop-end.invariant.2)
