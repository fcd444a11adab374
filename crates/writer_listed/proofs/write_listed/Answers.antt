-- `writer_listed::write_listed` meets its contract: the table is filled from its start, and the writer of a table is handed that part of it.
-- Rests on `table_put` and `table_written`, and on the callees' contracts.
use Prim.Native.Nat.{◌+◌, ◌≤◌}
use native.Mathlib.Omega.{arith}
use mathlib.Core.Path.{◌≡◌, refl, sym, ◌∙◌, ap}
use lib.ListN.{length, take}
use Rattle.writer_listed.specs.Listed.{record_keys}
use Rattle.writer_listed.specs.Rows.{kept_within, table_of}
use Rattle.writer_listed.specs.Whole.{table_put, table_written}
use Rattle.writer_listed.proofs.write_listed.Goals as goal
use Rattle.writer_listed.proofs.write_listed.Goals.{After-table-4-1}

-- where the table is filled: what stands at its start
abbrev Filled : After-table-4-1 → Type 0
Filled c =
    let s = c.args.image.now in
    let keys = record_keys s c.args.f in
    let table = c.put_others-size.new.table in
    let size = c.put_others-size.result in
    (size ≡ length (table_of s keys)) × (take size table ≡ table_of s keys) × (size ≤ length table)

filled : (c : After-table-4-1) → Filled c
filled c =
    table_put c.args.image.now c.args.f c.kept-first.result c.kept-first.ensures _ _ _ _ _ refl (rw c.get.ensures at c.put_row-one.ensures) c.put_others-size.ensures

pub overflow_add-blob : goal.overflow_add-blob
overflow_add-blob c = let within : c.kept-first.result.start + c.kept-first.result.length ≤ length c.args.image.now =
    rw c.kept-first.ensures (kept_within c.args.image.now c.args.f.header.blob) in
    omega (arith, within)

pub slice_bounds-table-end : goal.slice_bounds-table-end
slice_bounds-table-end c = (filled (goal.at.slice_bounds-table-end c).After-table-4-1).2

pub slice_bounds-write_filled-end : goal.slice_bounds-write_filled-end
slice_bounds-write_filled-end c = let done = filled (goal.at.slice_bounds-write_filled-end c).After-table-4-1 in done.0 ∙ ap length (sym done.1)

pub returns : goal.returns
returns c = let done = filled (goal.at.returns c).After-table-4-1 in
    table_written c.args.image.now c.args.f c.args.out.now _ _ (rw (← done.1) c.write_filled.ensures)
