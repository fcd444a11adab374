-- `writer_curve::put_names` meets its contract: the bytes that each kind has are its two strings. Rests on the names' spelling.
use mathlib.Core.Path.{◌≡◌, ◌∙◌, ap}
use Rattle.fields.specs.Bytes.{uint32, string}
use Rattle.names.specs.declared.Curve.TheVariants.{Nistp256, Nistp384, Nistp521}
use Rattle.names.specs.declared.Elliptic.TheVariants.{Ecdsa}
use Rattle.writer_curve.proofs.put_names.Goals as goal

pub returns-in-Ecdsa-Nistp256 : goal.returns-in-Ecdsa-Nistp256
unfolding string uint32
returns-in-Ecdsa-Nistp256 c = let w = c.in-Ecdsa-Nistp256 in
    let e : c.args.algorithm ≡ Ecdsa Nistp256 = w.is ∙ ap Ecdsa (rw w.is at w.field-0-is) in
    rw e c.put-in-Ecdsa-Nistp256.ensures

pub returns-in-Ecdsa-Nistp384 : goal.returns-in-Ecdsa-Nistp384
unfolding string uint32
returns-in-Ecdsa-Nistp384 c = let w = c.in-Ecdsa-Nistp384 in
    let e : c.args.algorithm ≡ Ecdsa Nistp384 = w.is ∙ ap Ecdsa (rw w.is at w.field-0-is) in
    rw e c.put-in-Ecdsa-Nistp384.ensures

pub returns-in-Ecdsa-Nistp521 : goal.returns-in-Ecdsa-Nistp521
unfolding string uint32
returns-in-Ecdsa-Nistp521 c = let w = c.in-Ecdsa-Nistp521 in
    let e : c.args.algorithm ≡ Ecdsa Nistp521 = w.is ∙ ap Ecdsa (rw w.is at w.field-0-is) in
    rw e c.put-in-Ecdsa-Nistp521.ensures
