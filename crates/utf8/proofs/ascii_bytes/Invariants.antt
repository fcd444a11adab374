-- `utf8::ascii_bytes` meets its contract. The loop's invariant: the bytes before the index are of the run. Rests on `run_over` and `run_stands`, what one
-- byte tells of a run.
use Rattle.utf8.specs.Steps.{ascii_run}
use Prim.Native.Nat.{◌≤◌}
use Rattle.utf8.proofs.ascii_bytes.Given as goal

abbrev pub invariant-loop-i : goal.invariant-loop-i
invariant-loop-i l = l.i ≤ ascii_run l.text
