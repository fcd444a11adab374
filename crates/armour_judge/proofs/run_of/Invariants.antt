-- `armour_judge::run_of` meets its contract: the run so far, and each group more.
use Prim.Native.Nat.{◌-◌}
use Rattle.armour_judge.specs.Runs.{Run}
use Rattle.armour_judge.proofs.run_of.Given as goal

abbrev pub invariant-loop-groups : goal.invariant-loop-groups
invariant-loop-groups l = Run l.text l.at l.left l.groups

abbrev pub decreases-loop-groups : goal.decreases-loop-groups
decreases-loop-groups l = l.left - l.groups
