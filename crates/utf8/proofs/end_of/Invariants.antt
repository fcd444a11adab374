-- `utf8::end_of` meets its contract. The loop's invariant: the text is answered from the next place on, with the tails that are left.
-- Rests on `first_lies` and what is beside it.
use Rattle.utf8.proofs.Bytes.{TailsLeft}
use Prim.Native.Nat.{◌+◌, ◌-◌}
use Rattle.utf8.specs.Steps.{ranges}
use Rattle.utf8.proofs.end_of.Given as goal

abbrev pub invariant-loop-k : goal.invariant-loop-k
invariant-loop-k l = TailsLeft (ranges l.fn.left) l.text l.from (l.from + 1 + l.k) (l.tails - l.k)
