-- `edit_add::open_within` meets its contract: the move and the puts make the image with two gaps. Rests on `open_puts`.
use Prim.Native.Nat.{◌+◌, ◌-◌}
use native.Mathlib.Omega.{arith}
use mathlib.Core.Path.{◌≡◌, sym, ◌∙◌}
use lib.ListN.{length}
use Rattle.std.proofs.lemmas.Result.{err_from_is_err_and}
use Rattle.edit_shells.specs.Shells.{opened_at, opened_size}
use Rattle.edit_shells.proofs.Edits.{fits_of, room_size, room_refused}
use Rattle.edit_add.specs.Open.{size_is, size_over, open_puts}
use Rattle.edit_add.proofs.open_within.Goals as goal
use Rattle.edit_add.proofs.open_within.Goals.{After-padding-padding, then-blob-gt65535-via-then-blob-gt65535, then-blob-gt65535-via-else-blob-gt65535+then-own-gt65535}

-- the image's length, as the code counts it
size_of :
    (c : After-padding-padding)
    → (let a = c.args in opened_size a.gaps.section a.gaps.end a.gaps.blob a.gaps.own ≡ a.gaps.section + a.gaps.blob + 4 + (a.gaps.end - (a.gaps.section + 4) + a.gaps.own + c.padding-padding.result))
size_of c =
    let a = c.args in
    size_is a.gaps.section a.gaps.end a.gaps.blob a.gaps.own c.padding-padding.result c.padding-padding.ensures

pub returns-then-blob-gt65535 : goal.returns-then-blob-gt65535
returns-then-blob-gt65535 c = let a = c.args in
    let over = size_over a.gaps.section a.gaps.end a.gaps.blob a.gaps.own in
    rw c.refused.ensures
    (room_size (opened_size a.gaps.section a.gaps.end a.gaps.blob a.gaps.own) (opened_at a.lent.now a.count a.gaps.section a.gaps.end a.gaps.blob a.gaps.own) a.lent.now
    (elim c.then-blob-gt65535.branch [
      | then-blob-gt65535-via-then-blob-gt65535 w ↦ omega (arith, over)
      | then-blob-gt65535-via-else-blob-gt65535+then-own-gt65535 w ↦ omega (arith, over)
    ]))

pub returns-in_err-size : goal.returns-in_err-size
returns-in_err-size c = let a = c.args in
    let p = err_from_is_err_and c.from_residual.result c.from_residual.ensures.1 in
    rw (p.1, p.2)
    (room_refused (opened_size a.gaps.section a.gaps.end a.gaps.blob a.gaps.own) (opened_at a.lent.now a.count a.gaps.section a.gaps.end a.gaps.blob a.gaps.own) a.lent.now _
    (rw (size_of (goal.at.returns-in_err-size c).After-padding-padding) (sym c.check_size.ensures ∙ c.in_err-size.was)))

pub returns : goal.returns
returns c = let a = c.args in
    let size = size_of (goal.at.returns c).After-padding-padding in
    let fit = fits_of (a.gaps.section + a.gaps.blob + 4 + (a.gaps.end - (a.gaps.section + 4) + a.gaps.own + c.padding-padding.result)) (length a.lent.now) _ (sym c.in_ok-size.was ∙ c.check_size.ensures) in
    rw (fit.0, sym size)
    (open_puts a.lent.now a.count a.gaps.section a.gaps.end c.requires a.gaps.blob a.gaps.own c.padding-padding.result _ _ _ _ _ _ _ c.padding-padding.ensures
    (omega (arith, fit.1, size)) (omega (arith, fit.2, size))
    c.move_bytes.ensures c.put_uint32.ensures c.put_uint32-2.ensures c.put_padding.ensures)
