-- `utf8::past_row` meets its contract. The loop's invariant: a character of the row begins at `at`, and what is left after its first byte answers
-- for what is left after that at `from`. The measure is what is left of the length. Rests on `row_goes_on`, what a first byte of the
-- row does.
use Prim.Native.Nat.{◌+◌, ◌-◌, ◌≤◌, ◌<◌}
use mathlib.Core.Path.{◌≡◌}
use lib.ListN.{length, drop}
use Rattle.utf8.specs.Utf8.{utf8_from}
use Rattle.utf8.specs.Steps.{ranges}
use Rattle.utf8.proofs.past_row.Given as goal

abbrev pub invariant-loop-end : goal.invariant-loop-end
invariant-loop-end l = (l.from ≤ l.at) ×
    (l.at < length l.text) ×
    (utf8_from (ranges l.left) (drop (l.at + 1) l.text) ≡ utf8_from (ranges l.left) (drop (l.from + 1) l.text))

abbrev pub decreases-loop-end : goal.decreases-loop-end
decreases-loop-end l = length l.text - l.at
