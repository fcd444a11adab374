-- `keys_report::write_keys_report` meets its contract: the text begins with the lines, and they are handed to the buffer.
-- Rests on `spelled`.
use mathlib.Core.Path.{sym, ap, ◌∙◌}
use native.Mathlib.Omega.{arith}
use lib.ListN.{length}
use Rattle.report_parts.specs.Parts.{spelled}
use Rattle.keys_report.proofs.write_keys_report.Goals as goal

pub slice_bounds-text-end : goal.slice_bounds-text-end
slice_bounds-text-end c = omega (arith, spelled 1536 _ _ _ c.put_report-n.ensures)

pub slice_bounds-hand_text-end : goal.slice_bounds-hand_text-end
slice_bounds-hand_text-end c = let k = spelled 1536 _ _ _ c.put_report-n.ensures in
    k.0 ∙ ap length (sym k.1)

pub returns : goal.returns
returns c = let put = c.put_report-n.ensures in
    let k = spelled 1536 _ _ _ put in
    (rw k.1 at c.hand_text.ensures, put.0)
