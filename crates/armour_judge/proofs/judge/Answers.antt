-- `armour_judge::judge` meets its contract: the opening line, and then the lines.
use native.Mathlib.Omega.{arith}
use mathlib.Core.Path.{sym, ◌∙◌}
use Rattle.armour_judge.specs.Signs.{opens, stands_within}
use Rattle.armour_judge.specs.Judge.{judge_not_opened, judge_opened}
use Rattle.armour_judge.specs.Judgement.{judged}
use Rattle.armour_judge.proofs.judge.Goals as goal

pub returns-then-not-stands : goal.returns-then-not-stands
unfolding opens
returns-then-not-stands c = judged _ _ (judge_not_opened _ (sym c.stands.ensures ∙ c.if-not-stands.true))

pub judge_lines-requires : goal.judge_lines-requires
unfolding opens
judge_lines-requires c = omega (arith, stands_within c.args.text.now 0 opens (sym c.stands.ensures ∙ c.if-not-stands.false))

pub returns : goal.returns
unfolding opens
returns c = judged _ _ (judge_opened _ (sym c.stands.ensures ∙ c.if-not-stands.false) _ c.judge_lines.ensures)
