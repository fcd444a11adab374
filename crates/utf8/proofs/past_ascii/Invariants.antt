-- `utf8::past_ascii` meets its contract. The loop's invariant: the place is within the text, and what is left of the run there ends where the
-- run at `from` ends. The measure is what is left of it. Rests on `passed`, what bytes of a run leave, on what the top bits tell (`all_ascii`,
-- `fewer_ascii`), and on `back`: the last eight bytes may begin before the place.
use Prim.Native.Nat.{◌≤◌}
use lib.ListN.{length, drop}
use Rattle.utf8.specs.Steps.{ascii_run}
use Rattle.utf8.proofs.Ascii.{SameEnd}
use Rattle.utf8.proofs.past_ascii.Given as goal

abbrev pub invariant-loop-at : goal.invariant-loop-at
invariant-loop-at l = (l.from ≤ l.at) × (l.at ≤ length l.text) × SameEnd l.text l.from l.at

abbrev pub decreases-loop-at : goal.decreases-loop-at
decreases-loop-at l = ascii_run (drop l.at l.text)
