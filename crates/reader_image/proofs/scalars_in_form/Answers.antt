-- `reader_image::scalars_in_form` meets its contract: one key has no others. Rests on the callees' contracts.
use Rattle.std.proofs.Common.{◌≡◌, ◌-◌, arith}
use Rattle.reader_image.specs.Form.{others_in_form, scalars_in_form}
use Rattle.reader_image.proofs.scalars_in_form.Goals as goal

pub returns-then-count-lt2 : goal.returns-then-count-lt2
unfolding scalars_in_form others_in_form
returns-then-count-lt2 c = let none : c.args.count - 1 ≡ 0 = omega arith in
    rw (← c.scalar_in_form.ensures, c.if-not-scalar_in_form.false, none)
