-- `key_public::read_point` meets its contract: an accepted string of the point's length is within the image, and has a first byte.
-- Rests on the places of `fixed`.
use Rattle.std.proofs.Common.{arith, sym, ◌∙◌}
use Rattle.fields.specs.Place.{string_place, fixed_place}
use Rattle.key_public.proofs.read_point.Goals as goal

pub bounds-image-point : goal.bounds-image-point
bounds-image-point c =
    let k = fixed_place _ _ _ _ _ (sym c.fixed.ensures ∙ c.in_ok-point.was) in
    omega (arith, k.1, (string_place _ _ _ _ k.0).placed, c.point_length.ensures)
