-- `report_parts::put_refused` meets its contract: the text begins with the line, and it is put from there.
-- Rests on `spelled`.
use mathlib.Core.Path.{sym, ap, ◌∙◌}
use native.Mathlib.Omega.{arith}
use lib.ListN.{length}
use Rattle.report_parts.specs.Parts.{spelled}
use Rattle.report_parts.proofs.put_refused.Goals as goal

pub slice_bounds-text-end : goal.slice_bounds-text-end
slice_bounds-text-end c = omega (arith, spelled 71 _ _ _ c.spell_refused-n.ensures)

pub slice_bounds-put-end : goal.slice_bounds-put-end
slice_bounds-put-end c = let k = spelled 71 _ _ _ c.spell_refused-n.ensures in
    k.0 ∙ ap length (sym k.1)

pub returns : goal.returns
returns c = let line = c.spell_refused-n.ensures in
    let k = spelled 71 _ _ _ line in
    (line.0, rw k.1 at c.put.ensures)
