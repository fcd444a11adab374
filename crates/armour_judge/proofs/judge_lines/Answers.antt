-- `armour_judge::judge_lines` meets its contract: two lines at a time, and then the rest.
use native.Mathlib.Omega.{arith}
use Rattle.armour_judge.specs.Two.{the_pair, pair_past, through_two}
use Rattle.armour_judge.proofs.judge_lines.Goals as goal

pub loop-p-smaller : goal.loop-p-smaller
loop-p-smaller c = let q = pair_past _ _ _ (the_pair _ _ _ (rw c.in-Some.is at c.past_two.ensures)) in omega (arith, q.0, q.1)

pub loop-p-preserved : goal.loop-p-preserved
loop-p-preserved c = let a = c.args in
    let d = the_pair _ _ _ (rw c.in-Some.is at c.past_two.ensures) in
    let q = pair_past _ _ _ d in
    (q.1, omega (arith, q.0, c.loop-p.invariant.1), through_two a.text.now (λ i. (c.type_inv.text i).fits) _ _ d c.loop-p.invariant.2)
