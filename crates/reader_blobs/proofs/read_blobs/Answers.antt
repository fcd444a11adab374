-- `reader_blobs::read_blobs` meets its contract: what is left to read from the place on is what was left before. Rests on `blobs_more`.
use Rattle.std.proofs.Common.{◌≡◌, ◌+◌, ◌-◌, arith, sym, ◌∙◌}
use Rattle.std.proofs.lemmas.Result.{err_from_is_err_and}
use Rattle.reader_blobs.specs.Blobs.{blobs_none, blobs_more}
use Rattle.reader_blobs.proofs.read_blobs.Goals as goal

pub returns-in_err-next : goal.returns-in_err-next
returns-in_err-next c =
    let p = err_from_is_err_and c.from_residual.result c.from_residual.ensures.1 in
    let more = blobs_more c.args.image.now c.loop.place (c.args.remaining - c.loop.counter) (omega (arith, c.loop-test.true)) in
    rw (p.1, p.2) (sym (rw (← c.read_blob_field.ensures, c.in_err-next.was) at more) ∙ c.loop.invariant)

pub loop-preserved : goal.loop-preserved
loop-preserved c =
    let more = blobs_more c.args.image.now c.loop.place (c.args.remaining - c.loop.counter) (omega (arith, c.loop-test.true)) in
    let less : c.args.remaining - (c.loop.counter + 1) ≡ c.args.remaining - c.loop.counter - 1 = omega arith in
    rw less (sym (rw (← c.read_blob_field.ensures, c.in_ok-next.was) at more) ∙ c.loop.invariant)

pub returns : goal.returns
returns c =
    let none : c.args.remaining - c.loop.counter ≡ 0 = omega (arith, c.loop-test.false) in
    rw (none, blobs_none) at c.loop.invariant
