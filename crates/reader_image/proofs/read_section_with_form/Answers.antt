-- `reader_image::read_section_with_form` meets its contract. Rests on `form_scalar`: for an accepted image the scalars alone say whether it is in the form,
-- and on `section_read`: what the section read accepts is accepted. Assumes nothing.
use Rattle.std.proofs.Common.{◌≡◌, sym, ◌∙◌, ap, Bool, Ok}
use Rattle.reader_image.specs.Halves.{section_read}
use Rattle.reader_image.specs.Read.{first_within}
use Rattle.reader_image.specs.FormLaws.{form_scalar}
use Rattle.reader_image.specs.Form.{section_form_at, told_form}
use Rattle.reader_image.proofs.read_section_with_form.Goals as goal

pub record_in_form-requires : goal.record_in_form-requires
record_in_form-requires c = let image = c.args.image.now in
    let answered = sym c.read_section.ensures.0 ∙ c.in_ok-fields.was in
    first_within image c.in_ok-fields.fields (section_read image c.args.half c.in_ok-fields.fields answered)

pub returns : goal.returns
unfolding section_form_at
returns c = let record' = c.in_ok-fields.fields in
    let image = c.args.image.now in
    let answered = sym c.read_section.ensures.0 ∙ c.in_ok-fields.was in
    let accepted = section_read image c.args.half record' answered in
    let form = form_scalar image (λ i. (c.type_inv.image i).fits) record' accepted in
    let same = ap (λ (b : Bool). Ok (record', b)) (c.record_in_form.ensures ∙ sym form) in
    rw (← c.read_section.ensures.0, c.in_ok-fields.was) (same, ap told_form same)
