-- `reader_section::read_plain` meets its contract: the section lies within the image. Rests on the place of `string`.
use Rattle.std.proofs.Common.{arith, sym, ◌∙◌}
use Rattle.fields.specs.Place.{string_place}
use Rattle.reader_section.proofs.read_plain.Goals as goal

pub overflow_add-inside : goal.overflow_add-inside
overflow_add-inside c = omega (arith, (string_place _ _ _ _ (sym c.string.ensures ∙ c.in_ok-section.was)).placed)
