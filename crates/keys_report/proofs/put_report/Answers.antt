-- `keys_report::put_report` meets its contract: by what was read, the line of the refusal or those of the keys are put.
-- Rests on `few_keys`, and on the callees' contracts.
use mathlib.Core.Path.{sym, ◌∙◌}
use Prim.Native.Nat.{◌≤◌}
use native.Mathlib.Omega.{arith}
use Rattle.keys_report.specs.Lines.{keys_report}
use Rattle.keys_report.specs.Short.{few_keys}
use Rattle.keys_report.proofs.put_report.Goals as goal
use Rattle.keys_report.proofs.put_report.Goals.{In-Ok}

-- after an accepted image was found, it has no more than sixteen keys
few : (c : In-Ok) → c.in-Ok.f.header.count ≤ 16
few c =
    few_keys c.args.image.now (λ i. (c.shared_slice_known-1.given i).fits) c.in-Ok.f
    (sym c.read.ensures.0 ∙ c.in-Ok.is)

pub put_keys-requires : goal.put_keys-requires
put_keys-requires c = omega (arith, few (goal.at.put_keys-requires c).In-Ok)

pub returns-in-Err : goal.returns-in-Err
unfolding keys_report
returns-in-Err c = let put = c.put_refused.ensures in
    rw (← c.read.ensures.0, c.in-Err.is) (omega (arith, put.0), λ room. put.1)

pub returns-in-Ok : goal.returns-in-Ok
unfolding keys_report
returns-in-Ok c = let put = c.put_keys.ensures in
    rw (← c.read.ensures.0, c.in-Ok.is) (omega (arith, put.0, few (goal.at.returns-in-Ok c).In-Ok), put.1)
