-- `armour_judge::group_at` meets its contract: four signs, one after the other.
use Rattle.armour_judge.specs.Signs.{no_first, no_second, no_third, no_fourth, all_four}
use Rattle.armour_judge.proofs.group_at.Goals as goal

pub returns-in_err-w : goal.returns-in_err-w
returns-in_err-w c = rw c.from_residual.ensures (no_first _ _ _ (rw c.in_err-w.was at c.sign_at.ensures))

pub returns-in_err-x : goal.returns-in_err-x
returns-in_err-x c = rw c.from_residual-in_err-x.ensures
    (no_second _ _ _ _ _ _ (rw c.in_ok-w.was at c.sign_at.ensures) (rw c.in_err-x.was at c.sign_at-2.ensures))

pub returns-in_err-y : goal.returns-in_err-y
returns-in_err-y c = rw c.from_residual-in_err-y.ensures
    (no_third _ _ _ _ _ _ (rw c.in_ok-w.was at c.sign_at.ensures) _ _ _ (rw c.in_ok-x.was at c.sign_at-2.ensures)
    (rw c.in_err-y.was at c.sign_at-3.ensures))

pub returns-in_err-z : goal.returns-in_err-z
returns-in_err-z c = rw c.from_residual-in_err-z.ensures
    (no_fourth _ _ _ _ _ _ (rw c.in_ok-w.was at c.sign_at.ensures) _ _ _ (rw c.in_ok-x.was at c.sign_at-2.ensures) _ _ _
    (rw c.in_ok-y.was at c.sign_at-3.ensures) (rw c.in_err-z.was at c.sign_at-4.ensures))

pub returns : goal.returns
returns c = all_four _ _ _ _ _ _ (rw c.in_ok-w.was at c.sign_at.ensures) _ _ _ (rw c.in_ok-x.was at c.sign_at-2.ensures) _ _ _
    (rw c.in_ok-y.was at c.sign_at-3.ensures) _ _ _ (rw c.in_ok-z.was at c.sign_at-4.ensures)
