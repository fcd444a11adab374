-- `key_material::derived_checkint` meets its contract: the checkint so far, mixed with the groups that are left, is that of all the bytes.
-- Rests on fields' laws of a uint32 that is read and of the bytes from a place on.
use Prim.Native.Nat.{◌-◌}
use mathlib.Core.Path.{◌≡◌}
use Rattle.fields.specs.Rest.{rest, Good}
use Rattle.key_material.specs.Material.{mixed, derived_checkint}
use Rattle.key_material.proofs.derived_checkint.Given as goal

abbrev pub invariant-loop-group : goal.invariant-loop-group
invariant-loop-group l = Good l.private l.at × (mixed l.checkint (rest l.private l.at) ≡ derived_checkint l.private)

abbrev pub decreases-loop-group : goal.decreases-loop-group
decreases-loop-group l = l.at.end - l.at.at
