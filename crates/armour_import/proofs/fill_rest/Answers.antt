-- `armour_import::fill_rest` meets its contract: no byte is left, or one, or two.
use native.Mathlib.Omega.{arith}
use mathlib.Core.Path.{sym, ◌∙◌}
use Rattle.armour_text.proofs.Exactly.{carried_bytes}
use Rattle.armour_text.specs.Import.{carried}
use Rattle.armour_import.specs.Fill.{ready, next_rest_lem, two_left, fill_one, fill_two, store_two}
use Rattle.armour_import.proofs.fill_rest.Goals as goal

pub four_at-f-requires : goal.four_at-f-requires
four_at-f-requires c = let a = c.args in
    let s = c.requires in
    let z = s.body.0.size in
    (ready _ (carried a.text.now) a.o _ _ s.body.1 (next_rest_lem _ _ (omega (arith, z, s.o_le_n.0)) (λ e. c.if-n-o.false (omega (arith, z, e))) (omega (arith, z, s.o_le_n.1))), s.o_le_n.3)

pub returns-then-n-o-eq1 : goal.returns-then-n-o-eq1
returns-then-n-o-eq1 c = let a = c.args in
    let s = c.requires in
    rw (c.bytes_of.ensures, c.bits_of.ensures)
    (fill_one _ (carried a.text.now) a.o _ _ s.body.1 (carried_bytes a.text.now) _ _ _ _ _ _ c.four_at-f.ensures (omega (arith, s.body.0.size, c.if-n-o-eq1.true)) _)

pub returns : goal.returns
returns c = let a = c.args in
    let s = c.requires in
    let two = two_left _ _ s.o_le_n.0 c.if-n-o.false c.if-n-o-eq1.false s.o_le_n.1 ∙ sym s.body.0.size in
    rw (c.bytes_of-2.ensures, c.bits_of-2.ensures)
    (store_two a.out.now a.o _ _ ∙ fill_two _ (carried a.text.now) a.o _ _ s.body.1 (carried_bytes a.text.now) _ _ _ _ _ _ c.four_at-f.ensures two _)
