-- `replay_telling::rest_of` meets its contract. The loop's invariant: what remains so far, taken on over the bytes from the next on, is
-- what remains of all. Assumes nothing.
use mathlib.Core.Path.{◌≡◌}
use lib.ListN.{drop}
use Rattle.replay_telling.specs.Telling.{rest_from, rest_of}
use Rattle.replay_telling.proofs.rest_of.Given as goal

abbrev pub invariant-loop-byte : goal.invariant-loop-byte
invariant-loop-byte l = rest_from l.rest (drop l.byte-index l.bytes) ≡ rest_of l.bytes
