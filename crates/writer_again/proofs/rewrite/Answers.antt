-- `writer_again::rewrite` meets its contract: read, then written, as it is where it is in the form. Rests on `form_scalar`, on
-- `in_form_again`, and on the callees' contracts.
use Prim.Native.Nat.{ℕ}
use native.Mathlib.Omega.{arith}
use mathlib.Core.Path.{◌≡◌, refl, sym, ◌∙◌}
use mathlib.Core.List.{List}
use Rattle.fields.specs.Bytes.{AllBytes}
use Rattle.reader_image.specs.declared.Fields.{Fields}
use Rattle.reader_image.specs.Container.{read_at}
use Rattle.reader_image.specs.Read.{first_within}
use Rattle.reader_image.specs.FormLaws.{form_scalar}
use Rattle.writer_again.specs.Rewrite.{rewrite_reply, rewrite_left}
use Rattle.writer_again.specs.Sized.{image_small, in_form_again}
use Rattle.std.proofs.lemmas.Result.{err_from_is_err_and}
use Rattle.writer_again.proofs.rewrite.Goals as goal
use Rattle.writer_again.proofs.rewrite.Goals.{In_ok-fields}
use Rattle.std.specs.Prelude.{Ok}

abbrev image-of : In_ok-fields → List ℕ
image-of c = c.args.image.now

all_of : (c : In_ok-fields) → AllBytes (image-of c)
all_of c = λ i. (c.type_inv.image i).fits

abbrev record_of : In_ok-fields → Fields
record_of c = c.in_ok-fields.fields

accepted : (c : In_ok-fields) → read_at (image-of c) ≡ Ok (record_of c)
accepted c = sym c.read.ensures.0 ∙ c.in_ok-fields.was

pub overflow_add-header : goal.overflow_add-header
overflow_add-header c = omega (arith, first_within (image-of (goal.at.overflow_add-header c).In_ok-fields) (record_of (goal.at.overflow_add-header c).In_ok-fields) (accepted (goal.at.overflow_add-header c).In_ok-fields))

pub write_as_is-requires : goal.write_as_is-requires
write_as_is-requires c = image_small (image-of (goal.at.write_as_is-requires c).In_ok-fields) (all_of (goal.at.write_as_is-requires c).In_ok-fields) (record_of (goal.at.write_as_is-requires c).In_ok-fields) (accepted (goal.at.write_as_is-requires c).In_ok-fields)

pub returns-then-form : goal.returns-then-form
unfolding rewrite_reply rewrite_left
returns-then-form c = let form = form_scalar (image-of (goal.at.returns-then-form c).In_ok-fields) (all_of (goal.at.returns-then-form c).In_ok-fields) (record_of (goal.at.returns-then-form c).In_ok-fields) (accepted (goal.at.returns-then-form c).In_ok-fields) ∙ sym c.scalars_in_form-form.ensures ∙ c.if-form.true in
    rw (accepted (goal.at.returns-then-form c).In_ok-fields) (in_form_again (image-of (goal.at.returns-then-form c).In_ok-fields) (all_of (goal.at.returns-then-form c).In_ok-fields) (record_of (goal.at.returns-then-form c).In_ok-fields) (accepted (goal.at.returns-then-form c).In_ok-fields) form _ _ _ c.write_as_is.ensures)

pub write_record-requires : goal.write_record-requires
write_record-requires c = accepted (goal.at.write_record-requires c).In_ok-fields

pub returns-in_err-fields : goal.returns-in_err-fields
unfolding rewrite_reply rewrite_left
returns-in_err-fields c =
    let p = err_from_is_err_and c.from_residual.result c.from_residual.ensures.1 in
    rw (p.1, p.2, ← c.read.ensures.0, c.in_err-fields.was) (refl, refl, refl)

pub returns : goal.returns
unfolding rewrite_reply rewrite_left
returns c = rw (accepted (goal.at.returns c).In_ok-fields) c.write_record.ensures
