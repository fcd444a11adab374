-- `Keys::put_entries` meets its contract: key by key. Rests on the laws of runs and on the callees' contracts.
use native.Mathlib.Omega.{arith}
use mathlib.Core.Path.{sym, ◌∙◌}
use Prim.Native.Nat.{◌*◌}
use Rattle.buffer.specs.Runs.{start, step, finish}
use Rattle.writer_rows.specs.Taken.{key_comment}
use Rattle.writer_keys.specs.Passes.{keys_all, keys_next, keys_end}
use Rattle.writer_keys.proofs.Keys.put_entries.Goals as goal

pub loop-i-init : goal.loop-i-init
loop-i-init c room = rw keys_all (start room)

pub loop-i-preserved : goal.loop-i-preserved
loop-i-preserved c room = let a = c.args in
    let comment = c.part_at.ensures.0 ∙ sym (key_comment a.self.now.text.now a.self.now.table.now (19 * c.loop-i.i)) in
    let left = rw (keys_next a.self.now.text.now a.self.now.table.now c.loop-i.i a.self.now.count (omega arith)) at (c.loop-i.invariant room) in
    step (step left c.put_pair_at-pair.ensures) (rw comment at c.put_string-past.ensures)

pub returns : goal.returns
returns c room = let a = c.args in
    finish (rw (keys_end a.self.now.text.now a.self.now.table.now c.loop-i.i a.self.now.count (omega arith)) at (c.loop-i.invariant room))
