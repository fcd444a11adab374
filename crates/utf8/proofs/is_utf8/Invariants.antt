-- `utf8::is_utf8` meets its contract. The loop's invariant: a character may begin at `i`, and the text from there on answers for the whole.
-- The measure is what is left of the length. Rests on `past`, where ASCII ends, and on the contract of `past_characters`.
use Prim.Native.Nat.{◌-◌, ◌≤◌}
use mathlib.Core.Path.{◌≡◌}
use lib.ListN.{length, drop}
use Rattle.utf8.specs.Utf8.{utf8}
use Rattle.utf8.proofs.is_utf8.Given as goal

abbrev pub invariant-loop-i : goal.invariant-loop-i
invariant-loop-i l = (l.i ≤ length l.text) × (utf8 (drop l.i l.text) ≡ utf8 l.text)

abbrev pub decreases-loop-i : goal.decreases-loop-i
decreases-loop-i l = length l.text - l.i
