-- `key_material::laid_out` meets its contract: bytes put after zeros are zeros and bytes put at the start. Rests on the contract of `put` and on
-- the laws of key material.
use Prim.Native.Nat.{◌+◌}
use mathlib.Core.Path.{◌≡◌, sym, ◌∙◌}
use lib.ListN.{length}
use Rattle.format.specs.Format.{standing}
use Rattle.format.specs.Scalars.{standing-length}
use Rattle.buffer.specs.Puts.{zeros}
use Rattle.key_material.specs.Material.{padded, material_of}
use Rattle.key_material.specs.Laws.{padded-standing}
use Rattle.key_material.proofs.laid_out.Goals as goal

pub returns : goal.returns
unfolding material_of padded zeros
returns c = let a = c.args in
    let private : c.put-2.new.out ≡ padded 66 (standing a.zeros a.private.now) =
    c.put-2.ensures.1 ∙ padded-standing 66 a.zeros a.private.now in
    let long : a.zeros + length a.private.now ≡ length (standing a.zeros a.private.now) = sym (standing-length a.zeros a.private.now) in
    rw (private, long, c.put.ensures.1)
