-- `reader_image::record_in_form` meets its contract: with one key no other scalar is to be looked at. Rests on the callees' contracts.
use Prim.Native.Nat.{◌-◌}
use native.Mathlib.Omega.{arith}
use mathlib.Core.Path.{◌≡◌}
use Rattle.fields.specs.Place.{by_bool}
use Rattle.reader_image.specs.Form.{others_in_form, scalars_in_form}
use Rattle.reader_image.proofs.record_in_form.Goals as goal

pub returns-then-header-lt2 : goal.returns-then-header-lt2
unfolding scalars_in_form others_in_form
returns-then-header-lt2 c = let f = c.args.f in
    let none : f.header.count - 1 ≡ 0 = omega arith in
    by_bool c.scalar_in_form.result
    (λ e. rw (← c.scalar_in_form.ensures, e, none))
    (λ e. rw (← c.scalar_in_form.ensures, e))
