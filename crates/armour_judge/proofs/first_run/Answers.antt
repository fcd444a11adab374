-- `armour_judge::first_run` meets its contract: sixteen groups, or none.
use mathlib.Core.Path.{sym, ◌∙◌}
use Rattle.armour_judge.specs.Runs.{run_tested}
use Rattle.armour_judge.proofs.first_run.Goals as goal

pub returns-then-are_groups : goal.returns-then-are_groups
returns-then-are_groups c = run_tested _ _ _ 16 (sym c.are_groups.ensures ∙ c.if-are_groups.true)
