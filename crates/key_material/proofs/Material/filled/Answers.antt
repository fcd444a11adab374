-- `key_material::Material::filled` meets its contract: a scalar after the zeros that it lacks is the filled one. Rests on the laws of key material.
use Prim.Native.Nat.{◌<◌, ◌^◌}
use native.Mathlib.Omega.{arith}
use lib.ListN.{length}
use Rattle.key_material.specs.Laws.{filled_missing, filled_bounded}
use Rattle.key_material.proofs.Material.filled.Goals as goal

pub laid_out-requires : goal.laid_out-requires
laid_out-requires c = let a = c.args in
    let long : length a.private.now < 2 ^ 64 = omega arith in
    omega (arith, c.zeros_missing.ensures, filled_bounded a.algorithm a.private.now long)

pub returns : goal.returns
returns c = let a = c.args in
    rw (filled_missing a.algorithm a.private.now, ← c.zeros_missing.ensures) c.laid_out.ensures
