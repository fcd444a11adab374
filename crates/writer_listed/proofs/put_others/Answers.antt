-- `writer_listed::put_others` meets its contract: key by key. Rests on the laws of runs and on the callees' contracts.
use native.Mathlib.Omega.{arith}
use mathlib.Core.Path.{sym, ◌∙◌, ap}
use Rattle.buffer.specs.Runs.{start, step, finish}
use Rattle.reader_entries.specs.Entries.{key_placed}
use Rattle.writer_listed.specs.Steps.{rows_none, rows_nothing, rows_more}
use Rattle.writer_listed.proofs.put_others.Goals as goal

pub loop-k-init : goal.loop-k-init
loop-k-init c room = start room

pub loop-k-preserved : goal.loop-k-preserved
loop-k-preserved c room = let a = c.args in
    let found = ap (key_placed a.image.now c.loop-k.blob) (sym c.get.ensures) ∙ sym c.read_key.ensures ∙ c.in-Some.is in
    let more = rows_more a.image.now c.loop-k.blob a.places c.loop-k.k a.count (omega arith) c.in-Some.key c.in-Some.next found in
    step (rw more at (c.loop-k.invariant room)) c.put_row-past.ensures

pub returns-in_default : goal.returns-in_default
returns-in_default c room = let a = c.args in
    let missing = ap (key_placed a.image.now c.loop-k.blob) (sym c.get.ensures) ∙ sym c.read_key.ensures ∙ c.in_default.is in
    finish (rw (rows_nothing a.image.now c.loop-k.blob a.places c.loop-k.k a.count (omega arith) missing) at (c.loop-k.invariant room))

pub returns : goal.returns
returns c room = let a = c.args in
    finish (rw (rows_none a.image.now c.loop-k.blob a.places c.loop-k.k a.count (omega arith)) at (c.loop-k.invariant room))
