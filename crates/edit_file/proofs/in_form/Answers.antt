-- `edit_file::in_form` meets its contract. Rests on `form_scalar`: for an accepted image the scalars alone say whether it is in the form.
use Rattle.std.proofs.Common.{sym, ◌∙◌, arith}
use Rattle.reader_image.specs.Read.{first_within}
use Rattle.reader_image.specs.FormLaws.{form_scalar}
use Rattle.edit_file.proofs.in_form.Goals as goal

pub overflow_add-header : goal.overflow_add-header
overflow_add-header c = omega (arith, first_within c.args.image.now c.args.f c.requires)

pub returns : goal.returns
returns c = c.scalars_in_form.ensures ∙ sym (form_scalar c.args.image.now (λ i. (c.type_inv.image i).fits) c.args.f c.requires)
