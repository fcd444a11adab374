-- `armour_export::put_text` meets its contract: the opening line, the signs and the end, one after the other, are the text.
use mathlib.Core.Path.{refl, ◌∙◌}
use Rattle.armour_text.specs.Text.{opening}
use Rattle.armour_export.specs.Whole.{signs_room, end_room, whole_text}
use Rattle.armour_export.proofs.put_text.Goals as goal

pub put_signs-end-requires : goal.put_signs-end-requires
unfolding opening
put_signs-end-requires c = let a = c.args in
    (signs_room a.bytes.now a.out.now c.requires _ _ c.put.ensures, refl)

pub put_end-requires : goal.put_end-requires
unfolding opening
put_end-requires c = let a = c.args in
    end_room a.bytes.now a.out.now c.requires _ _ c.put.ensures _ _ _ c.put_signs-end.ensures

pub returns : goal.returns
unfolding opening
returns c = let a = c.args in
    c.put_end.ensures
    ∙ whole_text a.bytes.now a.out.now c.requires _ _ c.put.ensures _ _ _ c.put_signs-end.ensures
