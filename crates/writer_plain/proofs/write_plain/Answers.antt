-- `writer_plain::write_plain` meets its contract: the views of the value are its bytes. Rests on the callees' contracts.
use Rattle.key_material.specs.Material.{public_of, private_of}
use Rattle.writer_plain.proofs.write_plain.Goals as goal

pub returns : goal.returns
unfolding public_of private_of
returns c = rw (← c.checkint-checkint.ensures, ← c.view-point.ensures.0, ← c.view-scalar.ensures.0) c.write_parts.ensures
