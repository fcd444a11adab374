-- `armour_export::twelve_in_line` meets its contract: three bytes, four times.
use native.Mathlib.Omega.{arith}
use Rattle.armour_export.specs.Stores.{passes_then}
use Rattle.armour_export.proofs.twelve_in_line.Goals as goal

pub returns : goal.returns
returns c = let d = c.three_in_line.ensures in
    let e = c.three_in_line-p3.ensures in
    let f = c.three_in_line-p2.ensures in
    let g = c.three_in_line-p1.ensures in
    (omega (arith, d.next_value.0, e.next_value.0, f.next_value.0, g.next_value.0), passes_then (passes_then (passes_then g.passes f.passes) e.passes) d.passes)
