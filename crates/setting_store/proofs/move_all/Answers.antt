-- `setting_store::move_all` meets its contract: the places before the device are moved. Rests on `up_to_put` and on the callees' contracts.
use Prim.Native.Nat.{ℕ, suc}
use native.Mathlib.Numerals.{add-one}
use native.Mathlib.Omega.{arith}
use mathlib.Core.Path.{◌≡◌, ◌∙◌, ap}
use lib.ListN.{length}
use Rattle.setting_store.specs.Move.{moved_record}
use Rattle.setting_store.specs.Moved.{moved_up_to, up_to_none, up_to_length, up_to_put, up_to_all}
use Rattle.setting_store.proofs.move_all.Goals as goal

pub loop-device-init : goal.loop-device-init
loop-device-init c = (up_to_none _, c.requires)

pub loop-device-preserved : goal.loop-device-preserved
loop-device-preserved c = let s = c.args.store.now in
    let device = c.loop-device.device in
    let n = c.moved_record-n.ensures ∙ ap moved_record c.record_at.ensures in
    let next = up_to_put device s c.loop-device.store _ _ _ (omega arith) c.loop-device.invariant.0 n c.put_uint32.ensures in
    (rw (add-one _) next, ap length next ∙ up_to_length (suc device) s (omega arith) ∙ c.requires)

pub returns : goal.returns
returns c = let s = c.args.store.now in
    let e : c.loop-device.device ≡ 32 = omega arith in
    c.loop-device.invariant.0 ∙ ap (λ (d : ℕ). moved_up_to d s) e ∙ up_to_all 32 s c.requires
