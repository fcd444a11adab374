-- `armour_judge::judge_rest` meets its contract: what is left, with n bytes more, is what was there at first.
use native.Mathlib.Omega.{arith}
use Prim.Native.Nat.{ℕ, ◌<◌, ◌≤◌, ◌+◌, ◌*◌}
use mathlib.Core.Path.{◌≡◌, sym}
use Rattle.armour_groups.proofs.Laws.{counted_none, counted_some, kind_most}
use Rattle.armour_judge.specs.Runs.{through_run}
use Rattle.armour_judge.specs.Judge.{group_past, body_end, body_none, body_kind, body_last, body_not_last, body_more}
use Rattle.armour_judge.proofs.judge_rest.Goals as goal

is-three : {n : ℕ} → n ≤ 3 → 3 ≤ n → n ≡ 3
is-three h k = omega arith

pub returns-in_err-four : goal.returns-in_err-four
returns-in_err-four c = let l = c.loop-from.invariant in
    rw c.from_residual.ensures
    (body_none _ _ _ _ l.2 l.3 (rw (c.loop-from-test.true) at c.is_end.ensures) (rw c.in_err-four.was at c.group_at.ensures))

pub returns-in_err-m : goal.returns-in_err-m
returns-in_err-m c = let l = c.loop-from.invariant in
    rw c.from_residual-in_err-m.ensures
    (body_kind _ _ _ _ l.2 l.3 (rw (c.loop-from-test.true) at c.is_end.ensures) _ _ _ _ _ _ (rw c.in_ok-four.was at c.group_at.ensures) (counted_none _ (sym (rw c.in_err-m.was at c.kind.ensures))))

pub returns-then-is_end : goal.returns-then-is_end
returns-then-is_end c = let l = c.loop-from.invariant in
    let k = counted_some _ _ (sym (rw c.in_ok-m.was at c.kind.ensures)) in
    rw k.0 (body_last _ _ _ _ l.2 l.3 (rw (c.loop-from-test.true) at c.is_end.ensures) _ _ _ _ _ _ (rw c.in_ok-four.was at c.group_at.ensures) k.1 (rw c.if-is_end.true at c.is_end-then-m-lt3.ensures))

pub returns-then-m-lt3 : goal.returns-then-m-lt3
returns-then-m-lt3 c = let l = c.loop-from.invariant in
    let k = counted_some _ _ (sym (rw c.in_ok-m.was at c.kind.ensures)) in
    body_not_last _ _ _ _ l.2 l.3 (rw (c.loop-from-test.true) at c.is_end.ensures) _ _ _ _ _ _ (rw c.in_ok-four.was at c.group_at.ensures) (rw k.0 at c.if-m-lt3.true) (rw c.if-is_end.false at c.is_end-then-m-lt3.ensures)

pub loop-from-preserved : goal.loop-from-preserved
loop-from-preserved c = let t = c.args.text.now in
    let l = c.loop-from.invariant in
    let q = group_past _ _ _ _ _ _ _ _ _ c.loop-from.invariant.2 (rw c.in_ok-four.was at c.group_at.ensures) in
    let r = c.run_of-groups.ensures in
    let k = counted_some _ _ (sym (rw c.in_ok-m.was at c.kind.ensures)) in
    let e = is-three (kind_most _ _ _ _) (rw k.0 at c.if-m-lt3.false) in
    let more : c.loop-from.n + (3 + 3 * c.run_of-groups.result) ≡ c.loop-from.n + 3 + 3 * c.run_of-groups.result = omega arith in (
      r.within,
      omega (arith, q.0, l.1),
      omega (arith, q.2),
      rw more (through_run t (λ i. (c.type_inv.text i).fits) _ _ _ _ q.2 r.in_line r.within r.signs (body_more _ _ _ _ l.2 l.3 (rw (c.loop-from-test.true) at c.is_end.ensures) _ _ _ _ _ _ (rw c.in_ok-four.was at c.group_at.ensures) e)),
    )

pub returns : goal.returns
returns c = let l = c.loop-from.invariant in body_end _ _ _ _ l.2 l.3 (rw (c.loop-from-test.false) at c.is_end.ensures)
