-- `setting_store::move_all` meets its contract: the places before the device are moved. Rests on `up_to_put` and on the callees' contracts.
use mathlib.Core.Path.{◌≡◌}
use lib.ListN.{length}
use Rattle.setting_store.specs.Moved.{moved_up_to}
use Rattle.setting_store.proofs.move_all.Given as goal

abbrev pub invariant-loop-device : goal.invariant-loop-device
invariant-loop-device l = (l.store ≡ moved_up_to l.device l.initial.store) × (length l.store ≡ 128)
