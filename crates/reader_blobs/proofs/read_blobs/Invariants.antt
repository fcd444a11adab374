-- `reader_blobs::read_blobs` meets its contract: what is left to read from the place on is what was left before.
use Rattle.std.proofs.Common.{◌≡◌, ◌-◌}
use Rattle.reader_blobs.specs.Blobs.{blobs_at}
use Rattle.reader_blobs.proofs.read_blobs.Given as goal

abbrev pub invariant-loop : goal.invariant-loop
invariant-loop l = blobs_at l.image l.place (l.remaining - l.counter) ≡ blobs_at l.image l.fn.c l.remaining
