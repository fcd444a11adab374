-- `mpint::zeros_before` meets its contract: i is never more than the zeros before the first byte that isn't zero.
use Rattle.std.proofs.Common.{◌≤◌}
use Rattle.mpint.specs.Mpint.{zeros_before}
use Rattle.mpint.proofs.zeros_before.Given as goal

abbrev pub invariant-loop-i : goal.invariant-loop-i
invariant-loop-i l = l.i ≤ zeros_before l.bytes
