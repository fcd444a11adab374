-- `Keys::check` meets its contract: what the keys that are left answer is what all answer. Rests on the laws of checks.
use native.Mathlib.Omega.{arith}
use mathlib.Core.Path.{◌≡◌, refl, sym, ◌∙◌}
use Prim.Native.Nat.{◌+◌, ◌-◌, ◌*◌}
use Rattle.std.proofs.lemmas.Result.{err_from_is_err_and}
use Rattle.writer_keys.specs.Passes.{keys_all}
use Rattle.writer_keys.specs.Checked.{checked_none, checked_refused, checked_passed}
use Rattle.writer_keys.proofs.Keys.check.Goals as goal

pub loop-i-init : goal.loop-i-init
loop-i-init c = rw (keys_all c.args.self.now.text.now c.args.self.now.table.now c.args.self.now.count) refl

pub returns-in_err-check_at : goal.returns-in_err-check_at
returns-in_err-check_at c = let a = c.args in
    let p = err_from_is_err_and c.from_residual.result c.from_residual.ensures.1 in
    let here = checked_refused a.filling a.self.now.text.now a.self.now.table.now (19 * c.loop-i.i) (a.self.now.count - c.loop-i.i) _ (λ e. omega arith) (sym c.check_at.ensures ∙ c.in_err-check_at.was) in
    rw (p.1, p.2) (sym here ∙ c.loop-i.invariant)

pub loop-i-preserved : goal.loop-i-preserved
loop-i-preserved c = let a = c.args in
    let here = checked_passed a.filling a.self.now.text.now a.self.now.table.now (19 * c.loop-i.i) (a.self.now.count - c.loop-i.i) _ (λ e. omega arith) (sym c.check_at.ensures ∙ c.in_ok-check_at.was) in
    let place : 19 * (c.loop-i.i + 1) ≡ 19 * c.loop-i.i + 19 = omega arith in
    let others : a.self.now.count - (c.loop-i.i + 1) ≡ a.self.now.count - c.loop-i.i - 1 = omega arith in
    rw (place, others) (sym here ∙ c.loop-i.invariant)

pub returns : goal.returns
returns c = let a = c.args in
    sym (checked_none a.filling a.self.now.text.now a.self.now.table.now (19 * c.loop-i.i) (a.self.now.count - c.loop-i.i) (omega arith)) ∙ c.loop-i.invariant
