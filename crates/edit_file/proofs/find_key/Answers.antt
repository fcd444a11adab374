-- `edit_file::find_key` meets its contract: the places of a key that was found are within the image. Rests on `there`.
use Prim.Native.Nat.{◌≤◌}
use native.Mathlib.Omega.{arith}
use mathlib.Core.Path.{◌≡◌, sym, ◌∙◌}
use Rattle.std.specs.Prelude.{Ok}
use Rattle.std.proofs.Common.{length-take-le}
use Rattle.edit_file.specs.Edits.{editable_at}
use Rattle.edit_file.specs.Afresh.{told}
use Rattle.edit_file.specs.Numbered.{There}
use Rattle.edit_file.proofs.Numbered.{there}
use Rattle.edit_file.proofs.find_key.Goals as goal
use Rattle.edit_file.proofs.find_key.Goals.{In_ok-fields, In-Some}

image : (c : In_ok-fields) → editable_at c.args.lent.now c.args.n ≡ Ok c.in_ok-fields.fields
image c = sym c.read_to_edit.ensures ∙ c.in_ok-fields.was

found : (c : In-Some) → There c.args.lent.now (λ i. (c.type_inv.lent i).fits) c.args.n c.in_ok-fields.fields (sym c.read_to_edit.ensures ∙ c.in_ok-fields.was) c.args.k c.in-Some.key
found c = there c.args.lent.now (λ i. (c.type_inv.lent i).fits) c.args.n c.in_ok-fields.fields _ c.args.k c.in-Some.key (sym c.key_of.ensures ∙ c.in-Some.is)

small : (c : In-Some) → c.args.n ≤ 65535
small c = (told c.args.lent.now (λ i. (c.type_inv.lent i).fits) c.args.n c.in_ok-fields.fields (sym c.read_to_edit.ensures ∙ c.in_ok-fields.was)).small

pub slice_bounds-key_of-end : goal.slice_bounds-key_of-end
slice_bounds-key_of-end c =
    sym (length-take-le c.args.n c.args.lent.now (told c.args.lent.now (λ i. (c.type_inv.lent i).fits) c.args.n c.in_ok-fields.fields (sym c.read_to_edit.ensures ∙ c.in_ok-fields.was)).inside)

pub overflow_sub-at : goal.overflow_sub-at
overflow_sub-at c = (found (goal.at.overflow_sub-at c).In-Some).whole_blob

pub overflow_add-at : goal.overflow_add-at
overflow_add-at c = omega (arith, (found (goal.at.overflow_add-at c).In-Some).blob_within, small (goal.at.overflow_add-at c).In-Some)

pub overflow_sub-at-2 : goal.overflow_sub-at-2
overflow_sub-at-2 c = (found (goal.at.overflow_sub-at-2 c).In-Some).whole_comment

pub overflow_add-at-2 : goal.overflow_add-at-2
overflow_add-at-2 c = omega (arith, (found (goal.at.overflow_add-at-2 c).In-Some).comment_within, small (goal.at.overflow_add-at-2 c).In-Some)

pub overflow_sub-at-3 : goal.overflow_sub-at-3
overflow_sub-at-3 c = (found (goal.at.overflow_sub-at-3 c).In-Some).padding_within
