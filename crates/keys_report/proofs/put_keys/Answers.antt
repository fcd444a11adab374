-- `keys_report::put_keys` meets its contract: whatever puts the lines that are left puts, after these, all of them. Rests on `lines_more`
-- and on the callee's contract.
use native.Mathlib.Omega.{arith}
use Rattle.std.proofs.Common.{◌≡◌, ◌+◌, ◌-◌}
use Rattle.keys_report.specs.Short.{lines_none, lines_more}
use Rattle.keys_report.proofs.put_keys.Goals as goal

pub loop-k-init : goal.loop-k-init
loop-k-init c = let n = c.args.f.header.count in
    let e : n + 1 - 1 ≡ n = omega arith in
    λ r out p. rw e at p

pub loop-k-preserved : goal.loop-k-preserved
loop-k-preserved c = let a = c.args in
    let k = c.loop-k.k in
    let left = a.f.header.count + 1 - k in
    let some : left ≡ 0 → ⊥ = λ z. omega arith in
    let e : a.f.header.count + 1 - (k + 1) ≡ left - 1 = omega arith in
    λ r out p. c.loop-k.invariant r out (lines_more a.image.now a.f k left some _ _ _ _ r out c.put_key-at.ensures (rw e at p))

pub returns : goal.returns
returns c = let a = c.args in
    let k = c.loop-k.k in
    let none : a.f.header.count + 1 - k ≡ 0 = omega arith in
    c.loop-k.invariant _ _ (lines_none a.image.now a.f k _ none _ _)
