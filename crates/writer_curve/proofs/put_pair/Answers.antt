-- `writer_curve::put_pair` meets its contract: where there is room for them, public key and private bytes, put one after the other, are the
-- keypair; else nothing is put. Rests on the laws of runs and of capped lengths.
use Prim.Native.Nat.{◌<◌, ◌^◌}
use native.Mathlib.Omega.{arith}
use mathlib.Core.Path.{sym, ◌∙◌}
use lib.ListN.{length}
use Rattle.names.specs.declared.Algorithm.TheVariants.{Elliptic as OnCurve}
use Rattle.format.specs.Format.{of_point, of_scalar, trimmed, zeros_asked, written_pair}
use Rattle.buffer.specs.Runs.{start_as, run, finish_as}
use Rattle.writer_parts.specs.Sizes.{not_put, room_for}
use Rattle.writer_curve.specs.Parts.{keypair_joined}
use Rattle.writer_curve.proofs.put_pair.Goals as goal

pub returns-then-not-has_room : goal.returns-then-not-has_room
returns-then-not-has_room c = let a = c.args in
    let pair = written_pair (OnCurve a.algorithm) (of_point a.point.now) (of_scalar a.scalar.now) in
    let short : length a.out.now < 2 ^ 63 = omega arith in
    not_put a.out.now a.at _ pair short c.pair_length.ensures (sym c.has_room.ensures ∙ c.if-not-has_room.true)

pub returns : goal.returns
returns c = let a = c.args in
    let pair = written_pair (OnCurve a.algorithm) (of_point a.point.now) (of_scalar a.scalar.now) in
    let short : length a.out.now < 2 ^ 63 = omega arith in
    let room = room_for a.out.now a.at _ pair short c.pair_length.ensures (sym c.has_room.ensures ∙ c.if-not-has_room.false) in
    let x = trimmed (OnCurve a.algorithm) (of_scalar a.scalar.now) in
    let joined = keypair_joined a.algorithm (zeros_asked (OnCurve a.algorithm) x) (of_point a.point.now) x in
    finish_as _ joined (run (run (start_as _ joined room) c.put_key-a.ensures) c.put_private.ensures)
