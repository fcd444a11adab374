-- `armour_judge::judge_lines` meets its contract: two lines at a time, and then the rest.
use Prim.Native.Nat.{◌-◌, ◌≤◌}
use lib.ListN.{length}
use Rattle.armour_judge.specs.Rest.{rest}
use Rattle.armour_judge.specs.Sized.{Through}
use Rattle.armour_judge.proofs.judge_lines.Given as goal

abbrev pub invariant-loop-p : goal.invariant-loop-p
invariant-loop-p l = (l.at ≤ length l.text) × (l.n ≤ l.at) × Through (rest l.text 35) 0 l.n (rest l.text l.at) 0

abbrev pub decreases-loop-p : goal.decreases-loop-p
decreases-loop-p l = length l.text - l.at
