-- `buffer::spell` meets its contract: the decimal of what is left of the number, then the digits that are written, are its decimal.
-- Rests on the law `digits_some`, and on that a number below 10 ^ i leaves one below 10 ^ (i - 1).
use mathlib.Core.Path.{◌≡◌}
use mathlib.Core.List.{◌++◌}
use Prim.Native.Nat.{◌≤◌, ◌<◌, ◌^◌}
use lib.ListN.{length, drop}
use Rattle.buffer.specs.Decimal.{decimal}
use Rattle.buffer.proofs.spell.Given as goal

abbrev pub invariant-loop-rest : goal.invariant-loop-rest
invariant-loop-rest l =
    (0 < l.i) × (l.i ≤ 20) × (length l.text ≡ 20) × (l.rest < 10 ^ l.i) × (decimal l.rest ++ drop l.i l.text ≡ decimal l.n)

abbrev pub decreases-loop-rest : goal.decreases-loop-rest
decreases-loop-rest l = l.i
