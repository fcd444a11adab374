-- `Keys::put_blobs` meets its contract: key by key. Rests on the laws of runs and on the callee's contract.
use native.Mathlib.Omega.{arith}
use Rattle.buffer.specs.Runs.{start, step, finish}
use Rattle.writer_keys.specs.Passes.{keys_all, keys_next, keys_end}
use Rattle.writer_keys.proofs.Keys.put_blobs.Goals as goal

pub loop-i-init : goal.loop-i-init
loop-i-init c room = rw keys_all (start room)

pub loop-i-preserved : goal.loop-i-preserved
loop-i-preserved c room = let a = c.args in
    step (rw (keys_next a.self.now.text.now a.self.now.table.now c.loop-i.i a.self.now.count (omega arith)) at (c.loop-i.invariant room)) c.put_blob_at-past.ensures

pub returns : goal.returns
returns c room = let a = c.args in
    finish (rw (keys_end a.self.now.text.now a.self.now.table.now c.loop-i.i a.self.now.count (omega arith)) at (c.loop-i.invariant room))
