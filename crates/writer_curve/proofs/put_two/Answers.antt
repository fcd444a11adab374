-- `writer_curve::put_two` meets its contract: the length of both, then each. Rests on the laws of runs.
use mathlib.Core.Path.{refl}
use Rattle.buffer.specs.Runs.{start_as, step, finish_as, string_joined}
use Rattle.writer_curve.proofs.put_two.Goals as goal

pub returns : goal.returns
returns c room = let joined = string_joined _ c.args.first.now c.args.second.now refl in
    finish_as _ joined (step (step (step (start_as _ joined room) c.put_uint32-a.ensures) c.put-b.ensures) c.put.ensures)
