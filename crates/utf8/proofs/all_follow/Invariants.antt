-- `utf8::all_follow` meets its contract. The loop's invariant: so far all follow.
use Rattle.utf8.specs.Follow.{all_follow}
use mathlib.Core.Path.{◌≡◌}
use Rattle.utf8.proofs.all_follow.Given as goal

abbrev pub invariant-loop-k : goal.invariant-loop-k
invariant-loop-k l = l.good ≡ all_follow l.k l.text l.at
