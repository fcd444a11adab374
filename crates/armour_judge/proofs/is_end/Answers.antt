-- `armour_judge::is_end` meets its contract: a line end, the closing line, a line end, and nothing more.
use mathlib.Core.Path.{◌∙◌, sym}
use native.Mathlib.Omega.{arith}
use Rattle.armour_judge.specs.Rest.{ended_place}
use Rattle.armour_judge.specs.Signs.{closes, end_no_line, end_other, end_cut, end_tested, stands_within}
use Rattle.armour_judge.proofs.is_end.Goals as goal

pub returns-in_default : goal.returns-in_default
returns-in_default c = end_no_line _ _ (rw c.in_default.is at c.past_end.ensures)

pub stands-requires : goal.stands-requires
stands-requires c = ended_place _ _ _ (rw c.in-Some.is at c.past_end.ensures)

pub returns-then-not-stands : goal.returns-then-not-stands
unfolding closes
returns-then-not-stands c = end_other _ _ _ (rw c.in-Some.is at c.past_end.ensures) (sym c.stands.ensures ∙ c.if-not-stands.true)

pub overflow_add-p : goal.overflow_add-p
unfolding closes
overflow_add-p c = omega (arith, stands_within c.args.text.now c.in-Some.p closes (sym c.stands.ensures ∙ c.if-not-stands.false))

pub returns-in-None : goal.returns-in-None
unfolding closes
returns-in-None c = end_cut _ _ _ (rw c.in-Some.is at c.past_end.ensures) (sym c.stands.ensures ∙ c.if-not-stands.false) (rw c.in-None.is at c.past_end-2.ensures)

pub returns-in-Some-past_end : goal.returns-in-Some-past_end
unfolding closes
returns-in-Some-past_end c = end_tested _ _ _ (rw c.in-Some.is at c.past_end.ensures) (sym c.stands.ensures ∙ c.if-not-stands.false) _ (rw c.in-Some-past_end.is at c.past_end-2.ensures)
