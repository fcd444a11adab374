-- `armour_judge::judge_rest` meets its contract: what is left, with n bytes more, is what was there at first.
use Prim.Native.Nat.{◌-◌, ◌<◌, ◌≤◌}
use lib.ListN.{length}
use Rattle.armour_judge.specs.Rest.{rest}
use Rattle.armour_judge.specs.Sized.{Through}
use Rattle.armour_judge.proofs.judge_rest.Given as goal

abbrev pub invariant-loop-from : goal.invariant-loop-from
invariant-loop-from l = (l.at ≤ length l.text) × (l.n ≤ l.at) × (l.left < 70) × Through (rest l.text 35) 0 l.n (rest l.text l.at) l.left

abbrev pub decreases-loop-from : goal.decreases-loop-from
decreases-loop-from l = length l.text - l.at
