-- `edit_remove::remove_within` meets its contract: the moves and the puts make the image without the key. Rests on `remove_puts`.
use Prim.Native.Nat.{ℕ, ◌+◌, ◌-◌}
use native.Mathlib.Omega.{arith}
use mathlib.Core.Path.{◌≡◌, refl, sym, ◌∙◌}
use mathlib.Core.List.{List}
use lib.ListN.{length}
use Rattle.std.proofs.lemmas.Result.{err_from_is_err_and}
use Rattle.edit_shells.specs.Shells.{removed_at}
use Rattle.edit_shells.proofs.Edits.{fits_of, renewed_refused}
use Rattle.edit_remove.specs.Remove.{field_of, size_is, remove_puts}
use Rattle.edit_remove.proofs.remove_within.Goals as goal
use Rattle.edit_remove.proofs.remove_within.Goals.{After-padding-padding}

abbrev image-of : After-padding-padding → List ℕ
image-of c =
    let a = c.args in
    removed_at a.lent.now a.count a.at.blob a.at.after a.at.section a.at.pair a.at.past a.at.end

abbrev field-of : After-padding-padding → ℕ
field-of c =
    let a = c.args in
    a.at.section - (a.at.after - a.at.blob)

abbrev content-of : After-padding-padding → ℕ
content-of c =
    let a = c.args in
    a.at.pair - (a.at.section + 4) + (a.at.end - a.at.past)

field_is : (c : After-padding-padding) → (let a = c.args in field-of c ≡ field_of a.at.blob a.at.after a.at.section)
field_is c = omega (arith, c.requires.second, c.requires.third)

size_of : (c : After-padding-padding) → length (image-of c) ≡ field-of c + 4 + (content-of c + c.padding-padding.result)
size_of c =
    let a = c.args in
    size_is a.lent.now a.n a.count a.at.blob a.at.after a.at.section a.at.pair a.at.past a.at.end c.requires (field-of c) (content-of c) c.padding-padding.result (field_is c) refl c.padding-padding.ensures

pub returns-in_err-check_size : goal.returns-in_err-check_size
returns-in_err-check_size c =
    let at = (goal.at.returns-in_err-check_size c).After-padding-padding in
    let p = err_from_is_err_and c.from_residual.result c.from_residual.ensures.1 in
    rw (p.1, p.2) (renewed_refused (image-of at) _ _ _ _ (size_of at) (sym c.check_size.ensures ∙ c.in_err-check_size.was))

pub returns : goal.returns
returns c = let a = c.args in
    let size = size_of (goal.at.returns c).After-padding-padding in
    let fit = fits_of (field-of (goal.at.returns c).After-padding-padding + 4 + (content-of (goal.at.returns c).After-padding-padding + c.padding-padding.result)) (length a.lent.now) _ (sym c.in_ok-check_size.was ∙ c.check_size.ensures) in
    remove_puts a.lent.now a.n a.count a.at.blob a.at.after a.at.section a.at.pair a.at.past a.at.end c.requires (field-of (goal.at.returns c).After-padding-padding) (content-of (goal.at.returns c).After-padding-padding) c.padding-padding.result _ _ _ _ _ _ _ _ _ _ _ _ _
    (field_is (goal.at.returns c).After-padding-padding) refl c.padding-padding.ensures refl refl refl refl refl
    (omega (arith, fit.1, size)) (omega (arith, fit.2, size))
    c.move_bytes.ensures c.move_bytes-2.ensures c.put_uint32.ensures c.put_uint32-2.ensures c.put_ending.ensures
