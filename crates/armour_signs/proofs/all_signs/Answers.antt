-- `armour_signs::all_signs` meets its contract: the bytes so far were looked at.
use Prim.Native.Nat.{ℕ, ◌<◌, ◌+◌, ◌-◌}
use native.Mathlib.Numerals.{add-one}
use native.Mathlib.Omega.{arith}
use mathlib.Core.Path.{◌≡◌}
use mathlib.Core.List.{List}
use lib.ListN.{length, get_or, take, drop}
use Rattle.std.proofs.lemmas.Grind.{elements}
use Rattle.armour_signs.proofs.all_signs.Goals as goal

part_at : (t : List ℕ) (at n i : ℕ) → i < length (take (at + n - at) (drop at t)) → get_or (take (at + n - at) (drop at t)) i 0 ≡ get_or t (at + i) 0
part_at t at n i h = grind (arith, elements)

pub loop-c-preserved : goal.loop-c-preserved
loop-c-preserved c = rw (add-one _, c.is_sign-good.ensures, part_at _ _ _ _ c.loop-c-test.true, c.loop-c.invariant)
