-- `reader_image::read_with_form` meets its contract. Rests on `form_scalar`: for an accepted image the scalars alone say whether it is in the form. Assumes nothing.
use Rattle.std.proofs.Common.{◌≡◌, sym, ◌∙◌, ap, Bool, Ok}
use Rattle.reader_image.specs.Read.{first_within}
use Rattle.reader_image.specs.FormLaws.{form_scalar}
use Rattle.reader_image.specs.Form.{form_read_at, told_form}
use Rattle.reader_image.proofs.read_with_form.Goals as goal

pub record_in_form-requires : goal.record_in_form-requires
record_in_form-requires c = first_within c.args.image.now c.in_ok-fields.fields (sym c.read.ensures.0 ∙ c.in_ok-fields.was)

pub returns : goal.returns
unfolding form_read_at
returns c = let record' = c.in_ok-fields.fields in
    let accepted = sym c.read.ensures.0 ∙ c.in_ok-fields.was in
    let form = form_scalar c.args.image.now (λ i. (c.type_inv.image i).fits) record' accepted in
    let same = ap (λ (b : Bool). Ok (record', b)) (c.record_in_form.ensures ∙ sym form) in
    rw (← c.read.ensures.0, c.in_ok-fields.was) (same, ap told_form same)
