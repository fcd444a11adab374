-- `edit_change::change_within` meets its contract: the move and the puts make the image with the new comment. Rests on `change_puts`.
use Prim.Native.Nat.{ℕ, ◌+◌, ◌-◌}
use native.Mathlib.Omega.{arith}
use mathlib.Core.Path.{◌≡◌, sym, ◌∙◌}
use mathlib.Core.List.{List}
use lib.ListN.{length}
use Rattle.std.proofs.lemmas.Result.{err_from_is_err_and}
use Rattle.edit_shells.specs.Shells.{changed_at}
use Rattle.edit_shells.proofs.Edits.{fits_of, refused_size, renewed_refused}
use Rattle.edit_change.specs.Change.{bare, changed_length, size_is, change_puts}
use Rattle.edit_change.proofs.change_within.Goals as goal
use Rattle.edit_change.proofs.change_within.Goals.{After-padding-padding}

abbrev image-of : After-padding-padding → List ℕ
image-of c =
    let a = c.args in
    changed_at a.lent.now a.at.section a.at.field a.at.past a.at.end a.comment.now

abbrev content-of : After-padding-padding → ℕ
content-of c =
    let a = c.args in
    a.at.field + (4 + length a.comment.now) - (a.at.section + 4) + (a.at.end - a.at.past)

content-is : (c : After-padding-padding) → (content-of c ≡ (let a = c.args in bare a.at.section a.at.field a.at.past a.at.end a.comment.now))
content-is c = omega (arith, c.requires.first)

size_of : (c : After-padding-padding) → length (image-of c) ≡ c.args.at.section + 4 + (content-of c + c.padding-padding.result)
size_of c =
    let a = c.args in
    size_is a.lent.now a.n a.at.section a.at.field a.at.past a.at.end a.comment.now c.requires (content-of c) c.padding-padding.result (content-is c) c.padding-padding.ensures

pub returns-then-comment-gt65535 : goal.returns-then-comment-gt65535
returns-then-comment-gt65535 c = let a = c.args in
    rw c.refused.ensures
    (refused_size _ _ _ (omega (arith, c.if-comment-gt65535.true, changed_length a.lent.now a.n a.at.section a.at.field a.at.past a.at.end a.comment.now c.requires)))

pub returns-in_err-check_size : goal.returns-in_err-check_size
returns-in_err-check_size c =
    let p = err_from_is_err_and c.from_residual.result c.from_residual.ensures.1 in
    rw (p.1, p.2)
    (renewed_refused _ _ _ _ _ (size_of (goal.at.returns-in_err-check_size c).After-padding-padding) (sym c.check_size.ensures ∙ c.in_err-check_size.was))

pub returns : goal.returns
returns c = let a = c.args in
    let size = size_of (goal.at.returns c).After-padding-padding in
    let fit = fits_of (a.at.section + 4 + (content-of (goal.at.returns c).After-padding-padding + c.padding-padding.result)) (length a.lent.now) _ (sym c.in_ok-check_size.was ∙ c.check_size.ensures) in
    change_puts a.lent.now a.n a.at.section a.at.field a.at.past a.at.end a.comment.now c.requires (content-of (goal.at.returns c).After-padding-padding) c.padding-padding.result _ _ _ _ _ _ _ _ _ _ _
    (content-is (goal.at.returns c).After-padding-padding) c.padding-padding.ensures (omega arith) (omega arith) (omega arith) (omega arith)
    (omega (arith, fit.1, size)) (omega (arith, fit.2, size))
    c.move_bytes.ensures c.put_uint32.ensures c.put_string.ensures c.put_ending.ensures
