-- `key_pairs::read_ed25519_pair` meets its contract: the string of 64 lies within the image. Rests on the places of `fixed`.
use Rattle.std.proofs.Common.{arith, sym, ◌∙◌}
use Rattle.fields.specs.Place.{fixed_place, string_place}
use Rattle.key_pairs.proofs.read_ed25519_pair.Goals as goal

pub overflow_add-half : goal.overflow_add-half
overflow_add-half c =
    let f = fixed_place _ _ _ _ _ (sym c.fixed-2.ensures ∙ c.in_ok-both.was) in
    omega (arith, (string_place _ _ _ _ f.0).placed, f.1)
