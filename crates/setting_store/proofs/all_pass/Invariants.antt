-- `setting_store::all_pass` meets its contract: the places before the device pass. Rests on the callees' contracts.
use Rattle.std.proofs.Common.{ℕ, ◌≡◌, Bool, true}
use Rattle.setting_store.specs.Move.{all_places}
use Rattle.setting_store.proofs.all_pass.Given as goal

abbrev pub invariant-loop-device : goal.invariant-loop-device
invariant-loop-device g l =
    (test : ℕ → Bool) → ((n : ℕ) (r : Bool) → goal.F-post g l.passes n r → r ≡ test n) → true ≡ all_places test l.device l.store
