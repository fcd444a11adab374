-- `c_section::saltorchard_read_section` meets its contract. Rests on `section_forged` and `section_half`: to find the half and hand it on is the
-- comparison with the image's own.
use Rattle.std.proofs.Common.{sym, ◌∙◌, ap}
use Rattle.c_numbers.specs.Numbers.{image_of}
use Rattle.c_section.specs.Halves.{section_forged, section_half}
use Rattle.c_section.proofs.saltorchard_read_section.Goals as goal

pub returns-in-None : goal.returns-in-None
returns-in-None c = let forged = sym c.half_of.ensures ∙ c.in-None.is in
    c.forged_half.ensures ∙ sym (section_forged c.args.image.now (λ i. (c.type_inv.image i).fits) c.args.header forged)

pub returns-in-Some : goal.returns-in-Some
returns-in-Some c = let found = sym c.half_of.ensures ∙ c.in-Some.is in
    c.image_of.ensures ∙ ap image_of c.read_section_with_form.ensures.0
    ∙ sym (section_half c.args.image.now (λ i. (c.type_inv.image i).fits) c.args.header c.in-Some.half found)
